-- Inside: plumbing, a representation, an invariant or a promise beside the claim (docs/TRUST.md).
-- An image by the lists that it is made of, and what a change of an image asks of them.
use Rattle.std.specs.Prelude.{◌≡◌, ◌⊎◌, ℕ, true, if◌then◌else◌, nat_lt, List, length, slice_get, Option, Some, None}
use Rattle.std.specs.Option.{option_or}
use Rattle.sc_base.specs.declared.key.Key.{Key}
use Rattle.sc_isa_image.specs.declared.image.Image.{Image}
use Rattle.sc_isa_image.specs.declared.text.Text.{Text}
use Rattle.sc_isa_image.specs.Texts.{holds, place_of as where_of, text_holding}
use Rattle.sc_isa_image.specs.Lookups.{functions_of, key_of, text_at, value_of, word_at}
use Rattle.sc_link.specs.declared.placed.LiteralAt.{LiteralAt}
use Rattle.sc_link.specs.Entries.{Fix}
use Rattle.sc_link.specs.declared.placed.Placed.{Placed}
use Rattle.sc_link.specs.Entries.{fixes_in, jumps_in, literals_in, statics_in, texts_in}
use Rattle.sc_link.specs.Linked.{base_value, key_in, place_in, stub_from, stub_in, text_word_in, value_in}
use Rattle.sc_link.specs.Steps.{HasLiterals}

-- An image of these functions, statics, stubs that lead to texts, texts, and literals. The words of the texts have their
-- relocations under these values.
pub record Stands (funs : List Key) (statics jumps : List (Key × ℕ)) (placed : List Text) (fixes : List Fix) (value : Key → Option ℕ) (named : List LiteralAt) (i : Image) : Type 0 where
  pub count : length (functions_of i) ≡ length funs
  pub keys : (at : ℕ) → key_of i at ≡ key_in funs at
  pub values : (key : Key) → value_of i key ≡ option_or (stub_from 0 funs key) (place_in statics key)
  pub words : (pc : ℕ) → word_at i pc ≡ (if nat_lt pc 0x00100000 then stub_in jumps funs pc else text_word_in value fixes placed pc)
  pub texts : (pc : ℕ) → text_at i pc ≡ (if nat_lt pc 0x00100000 then None else where_of (text_holding placed pc))
  pub literals : HasLiterals named i

-- an element of a list
abbrev pub Has : {A : Type 0} → A → List A → Type 0
Has x xs = (n : ℕ) × (slice_get xs n ≡ Some x)

-- the image of a list, whose words are made under some values
abbrev pub Under : (Key → Option ℕ) → List Placed → List Key → Image → Type 0
Under value es funs i = Stands funs (statics_in es) (jumps_in es) (texts_in es) (fixes_in es) value (literals_in es) i

-- The image of a list, but for the words whose relocations name one of some keys: they may be made under other values.
pub record IsOpen (es : List Placed) (funs keys : List Key) (i : Image) : Type 0 where
  pub value : Key → Option ℕ
  pub stands : Under value es funs i
  pub same : (k : Key) → (Has k keys → ⊥) → value k ≡ value_in es funs k

-- each word that a relocation changes is in one of the texts
abbrev pub AreHeld : List Fix → List Text → Type 0
AreHeld fixes texts = (f : Fix) → Has f fixes → (t : Text) × (Has t texts × (holds f.at t ≡ true))

-- no two relocations change one word
abbrev pub AreSingle : List Fix → Type 0
AreSingle fixes = (f g : Fix) → Has f fixes → Has g fixes → f.at ≡ g.at → f ≡ g

-- no key of the first list is in the second
abbrev pub AreAbsent : List Key → List (Key × ℕ) → Type 0
AreAbsent keys places = (k : Key) → Has k keys → place_in places k ≡ None

-- Relocations `made` under new values over those of a list: each relocation of the new list is made, or stands in the old one
-- and adds to what it added to.
pub record Covers (before after : Key → Option ℕ) (old new made : List Fix) : Type 0 where
  pub kept : (f : Fix) → Has f old → Has f new
  pub inside : (f : Fix) → Has f made → Has f new
  pub covers : (f : Fix) → Has f new → Has f made ⊎ (Has f old × (base_value before f.base ≡ base_value after f.base))
