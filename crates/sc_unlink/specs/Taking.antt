-- Inside: plumbing, a representation, an invariant or a promise beside the claim (docs/TRUST.md).
-- What an image is after parts of it were taken out, look-up by look-up.
use Rattle.std.specs.Prelude.{◌≡◌, ℕ, ◌+◌, ◌/◌, ◌*◌, ◌%◌, ◌==◌, ◌≤◌, true, if◌then◌else◌, List, [], ◌∷◌, find, slice_get, Option, Some, None}
use Rattle.sc_base.specs.declared.key.Key.{Key}
use Rattle.sc_isa_image.specs.declared.image.Image.{Image}
use Rattle.sc_isa_image.specs.declared.text.Text.{Text}
use Rattle.sc_isa_image.specs.declared.text.TextAt.{TextAt}
use Rattle.sc_isa_image.specs.Stubs.{call_words}
use Rattle.sc_isa_image.specs.Texts.{holds, starts_at}
use Rattle.sc_isa_image.specs.Lookups.{SameKeys, SameLiterals, SameTexts, SameValues, SameWords, Spends, key_of, text_at, value_of, word_at}
use Rattle.sc_link.specs.Linked.{AreApart, place_in}
use Rattle.sc_link.specs.Steps.{count_of, jump_for}

-- the word of a stub that asks for the service again, where the stub was found
abbrev pub call_again : ℕ → Option ℕ → Option ℕ → Option ℕ
call_again pc None before = before
call_again pc (Some at) before = if pc % 8 == 0 then slice_get call_words 0 else if pc % 8 == 4 then slice_get call_words 1 else before

-- the stubs of the functions of a list ask for the service
pub record ClearsJumps (jumps : List (Key × ℕ)) (old new : Image) : Type 0 where
  pub words : (pc : ℕ) → word_at new pc ≡ call_again pc (jump_for jumps (key_of old (pc / 8 * 8))) (word_at old pc)
  pub count : count_of new ≡ count_of old
  pub keys : SameKeys old new
  pub values : SameValues old new
  pub texts : SameTexts old new
  pub literals : SameLiterals old new
  pub room : Spends old new 0 0 0 0

-- the two words at an address are those of a stub that asks for the service
pub record ClearsStub (stub : ℕ) (old new : Image) : Type 0 where
  pub words : (pc : ℕ) → word_at new pc ≡ (if pc == stub + 4 then slice_get call_words 1 else if pc == stub then slice_get call_words 0 else word_at old pc)
  pub count : count_of new ≡ count_of old
  pub keys : SameKeys old new
  pub values : SameValues old new
  pub texts : SameTexts old new
  pub literals : SameLiterals old new
  pub room : Spends old new 0 0 0 0

-- what is left where something was found
abbrev pub left_by : {A B : Type 0} → Option A → Option B → Option B
left_by None before = before
left_by (Some x) before = None

-- the keys of a list have no value
pub record TakesValues (objects : List (Key × ℕ)) (old new : Image) : Type 0 where
  pub values : (q : Key) → value_of new q ≡ left_by (place_in objects q) (value_of old q)
  pub count : count_of new ≡ count_of old
  pub keys : SameKeys old new
  pub words : SameWords old new
  pub texts : SameTexts old new
  pub literals : SameLiterals old new
  pub room : Spends old new 0 0 0 0

-- the text that begins at an address is gone
pub record Takes (start : ℕ) (old new : Image) : Type 0 where
  pub words : (pc : ℕ) → word_at new pc ≡ (if starts_at start (text_at old pc) then None else word_at old pc)
  pub texts : (pc : ℕ) → text_at new pc ≡ (if starts_at start (text_at old pc) then None else text_at old pc)
  pub count : count_of new ≡ count_of old
  pub keys : SameKeys old new
  pub values : SameValues old new
  pub literals : SameLiterals old new
  pub room : Spends old new 0 0 0 0

-- the texts of a list are gone
pub record TakesTexts (ts : List Text) (old new : Image) : Type 0 where
  pub words : (pc : ℕ) → word_at new pc ≡ left_by (find (holds pc) ts) (word_at old pc)
  pub texts : (pc : ℕ) → text_at new pc ≡ left_by (find (holds pc) ts) (text_at old pc)
  pub count : count_of new ≡ count_of old
  pub keys : SameKeys old new
  pub values : SameValues old new
  pub literals : SameLiterals old new
  pub room : Spends old new 0 0 0 0

-- each text of an image is of a list, and holds the addresses at which it is found
pub record IsFrom (ts : List Text) (pc : ℕ) (at : TextAt) : Type 0 where
  pub number : ℕ
  pub text : Text
  pub listed : slice_get ts number ≡ Some text
  pub is : text.at ≡ at
  pub here : holds pc text ≡ true

-- The texts of an image are of a list, whose texts are apart and in the text area; each is there as a whole.
pub record HasTexts (ts : List Text) (i : Image) : Type 0 where
  pub apart : AreApart ts
  pub low : (n : ℕ) (t : Text) → slice_get ts n ≡ Some t → 0x00100000 ≤ t.at.start
  pub from : (pc : ℕ) (at : TextAt) → text_at i pc ≡ Some at → IsFrom ts pc at
  pub whole : (pc : ℕ) (at : TextAt) → text_at i pc ≡ Some at → text_at i at.start ≡ Some at

-- each of some texts is of a list
abbrev pub Lists : List Text → List Text → Type 0
Lists ts some = (n : ℕ) (t : Text) → slice_get some n ≡ Some t → (m : ℕ) × (slice_get ts m ≡ Some t)

-- where a text begins that has words
abbrev pub start_of_words : Text → List ℕ → Option ℕ
start_of_words t [] = None
start_of_words t (w ∷ ws) = Some t.at.start

abbrev pub starts_with_words : Option Text → Option ℕ
starts_with_words None = None
starts_with_words (Some t) = start_of_words t t.words
