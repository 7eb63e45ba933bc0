-- Inside: plumbing, a representation, an invariant or a promise beside the claim (docs/TRUST.md).
-- What the steps of linking make of an image, look-up by look-up.
use Rattle.std.specs.Prelude.{◌≡◌, ◌≢◌, ◌↔◌, ◌⊎◌, ℕ, ◌+◌, ◌*◌, ◌/◌, ◌%◌, ◌==◌, ◌<◌, ◌≤◌, Bool, true, false, if◌then◌else◌, nat_lt, List, [], ◌∷◌, ◌++◌, length, find, slice_get, Option, Some, None, IsSome}
use Rattle.std.specs.Option.{option_map, option_or}
use Rattle.sc_base.specs.declared.key.Key.{Key}
use Rattle.sc_isa_image.specs.declared.image.Image.{Image}
use Rattle.sc_isa_image.specs.declared.literals.Literal.{Literal}
use Rattle.sc_isa_image.specs.declared.text.Text.{Text}
use Rattle.sc_isa_image.specs.Stubs.{call_words, jump_words, stub_address}
use Rattle.sc_isa_image.specs.Texts.{end_of, holds, place_of as where_of, text_holding, text_word, word_in}
use Rattle.sc_isa_image.specs.Lookups.{SameKeys, SameLiterals, SameTexts, SameValues, SameWords, Spends, functions_of, key_eq, key_of, literal_in, text_at, value_of, value_or, word_at}
use Rattle.sc_link.specs.declared.placed.LiteralAt.{LiteralAt}
use Rattle.sc_link.specs.Relocation.{relocated}
use Rattle.sc_link.specs.Entries.{Fix}
use Rattle.sc_link.specs.Linked.{fixed_all, key_in, literal_of, literal_place, place_in, stub_from, stub_in}

abbrev pub count_of : Image → ℕ
count_of i = length (functions_of i)

-- what is found, with functions put in their order, from number n on
abbrev pub key_from : ℕ → List Key → ℕ → Option Key → Option Key
key_from n [] at before = before
key_from n (k ∷ ks) at before = key_from (n + 1) ks at (if at == stub_address n then Some k else before)

abbrev pub stub_over : ℕ → List Key → Key → Option ℕ → Option ℕ
stub_over n [] key before = before
stub_over n (k ∷ ks) key before = stub_over (n + 1) ks key (if key_eq k key then Some (stub_address n) else before)

abbrev pub call_over : ℕ → List Key → ℕ → Option ℕ → Option ℕ
call_over n [] pc before = before
call_over n (k ∷ ks) pc before =
    call_over (n + 1) ks pc (if pc == stub_address n then slice_get call_words 0 else if pc == stub_address n + 4 then slice_get call_words 1 else before)

-- functions get the next numbers
pub record PutsFunctions (ks : List Key) (old new : Image) : Type 0 where
  pub count : count_of new ≡ count_of old + length ks
  pub keys : (at : ℕ) → key_of new at ≡ key_from (count_of old) ks at (key_of old at)
  pub values : (q : Key) → value_of new q ≡ stub_over (count_of old) ks q (value_of old q)
  pub words : (pc : ℕ) → word_at new pc ≡ call_over (count_of old) ks pc (word_at old pc)
  pub texts : SameTexts old new
  pub literals : SameLiterals old new
  pub room : Spends old new 0 0 0 (length ks)

-- keys that have no number and no value yet, none of them twice
pub record AreNew (ks : List Key) (i : Image) : Type 0 where
  pub unknown : (n : ℕ) (k : Key) → slice_get ks n ≡ Some k → (at : ℕ) → key_of i at ≢ Some k
  pub absent : (n : ℕ) (k : Key) → slice_get ks n ≡ Some k → value_of i k ≡ None
  pub distinct : (m n : ℕ) (k : Key) → slice_get ks m ≡ Some k → slice_get ks n ≡ Some k → m ≡ n

-- keys without a value get the first that the list has for them
pub record PutsStatics (xs : List (Key × ℕ)) (old new : Image) : Type 0 where
  pub values : (q : Key) → value_of new q ≡ value_or (value_of old q) (place_in xs q)
  pub count : count_of new ≡ count_of old
  pub keys : SameKeys old new
  pub words : SameWords old new
  pub texts : SameTexts old new
  pub literals : SameLiterals old new
  pub room : Spends old new 0 (length xs) 0 0

abbrev pub word_over : ℕ → Option Text → Option ℕ → Option ℕ
word_over pc None before = before
word_over pc (Some t) before = word_in pc t

-- texts are placed
pub record PutsTexts (ts : List Text) (old new : Image) : Type 0 where
  pub words : (pc : ℕ) → word_at new pc ≡ word_over pc (find (holds pc) ts) (word_at old pc)
  pub texts : (pc : ℕ) → text_at new pc ≡ option_or (where_of (find (holds pc) ts)) (text_at old pc)
  pub count : count_of new ≡ count_of old
  pub keys : SameKeys old new
  pub values : SameValues old new
  pub literals : SameLiterals old new
  pub room : Spends old new (length ts) 0 0 0

-- texts with words in the text area, where no text is, and of which no two hold one address
pub record AreFree (ts : List Text) (i : Image) : Type 0 where
  pub low : (n : ℕ) (t : Text) → slice_get ts n ≡ Some t → 0x00100000 ≤ t.at.start
  pub high : (n : ℕ) (t : Text) → slice_get ts n ≡ Some t → end_of t ≤ 0x04100000
  pub free : (n : ℕ) (t : Text) (pc : ℕ) → slice_get ts n ≡ Some t → holds pc t ≡ true → text_at i pc ≡ None
  pub apart : (m n : ℕ) (t u : Text) (pc : ℕ) → slice_get ts m ≡ Some t → slice_get ts n ≡ Some u → holds pc t ≡ true → holds pc u ≡ true → m ≡ n

-- the word of a stub that leads to a text
abbrev pub jump_over : ℕ → Option ℕ → Option ℕ → Option ℕ
jump_over pc None before = before
jump_over pc (Some at) before = if pc % 8 == 0 then slice_get (jump_words at) 0 else if pc % 8 == 4 then slice_get (jump_words at) 1 else before

abbrev pub jump_for : List (Key × ℕ) → Option Key → Option ℕ
jump_for jumps None = None
jump_for jumps (Some key) = place_in jumps key

-- the stubs of functions lead to the first text that the list has for them
pub record SetsJumps (jumps : List (Key × ℕ)) (old new : Image) : Type 0 where
  pub words : (pc : ℕ) → word_at new pc ≡ jump_over pc (jump_for jumps (key_of old (pc / 8 * 8))) (word_at old pc)
  pub count : count_of new ≡ count_of old
  pub keys : SameKeys old new
  pub values : SameValues old new
  pub texts : SameTexts old new
  pub literals : SameLiterals old new
  pub room : Spends old new 0 0 0 0

-- the two words at an address are those of a stub that leads to a text
pub record SetsStub (stub at : ℕ) (old new : Image) : Type 0 where
  pub words : (pc : ℕ) → word_at new pc ≡ (if pc == stub + 4 then slice_get (jump_words at) 1 else if pc == stub then slice_get (jump_words at) 0 else word_at old pc)
  pub count : count_of new ≡ count_of old
  pub keys : SameKeys old new
  pub values : SameValues old new
  pub texts : SameTexts old new
  pub literals : SameLiterals old new
  pub room : Spends old new 0 0 0 0

-- the value of each function is its stub, whose words are there
pub record AreStubs (i : Image) : Type 0 where
  pub values : (at : ℕ) (k : Key) → key_of i at ≡ Some k → value_of i k ≡ Some at
  pub low : (at : ℕ) (k : Key) → key_of i at ≡ Some k → at < 0x00090000
  pub first : (at : ℕ) (k : Key) → key_of i at ≡ Some k → IsSome (word_at i at)
  pub second : (at : ℕ) (k : Key) → key_of i at ≡ Some k → IsSome (word_at i (at + 4))

-- what is held at a place after literals were put: one of them that has this place, or what was there
abbrev pub MayHold : List LiteralAt → Option Literal → ℕ → Option Literal → Type 0
MayHold xs before at after = (l : Literal) → after ≡ Some l → (before ≡ Some l) ⊎ ((n : ℕ) × (x : LiteralAt) × (slice_get xs n ≡ Some x) × (x.at ≡ at) × (literal_of x ≡ l))

-- the image has these literals: each at the place of the last entry of the list
abbrev pub HasLiterals : List LiteralAt → Image → Type 0
HasLiterals ls i = (l : Literal) (at : ℕ) → (literal_in i at ≡ Some l) ↔ (literal_place ls l ≡ Some at)

-- literals get places: a literal that has one already gets the new one
pub record PutsLiterals (xs : List LiteralAt) (old new : Image) : Type 0 where
  pub literals : (ls : List LiteralAt) → HasLiterals ls old → HasLiterals (ls ++ xs) new
  pub places : (at : ℕ) → MayHold xs (literal_in old at) at (literal_in new at)
  pub count : count_of new ≡ count_of old
  pub keys : SameKeys old new
  pub values : SameValues old new
  pub words : SameWords old new
  pub texts : SameTexts old new
  pub room : Spends old new 0 0 (length xs) 0

-- the places of literals hold no other literal, and no two literals have one place
pub record AreLiteralsFree (xs : List LiteralAt) (i : Image) : Type 0 where
  pub free : (n : ℕ) (x : LiteralAt) (l : Literal) → slice_get xs n ≡ Some x → literal_in i x.at ≡ Some l → l ≡ literal_of x
  pub apart : (m n : ℕ) (x y : LiteralAt) → slice_get xs m ≡ Some x → slice_get xs n ≡ Some y → x.at ≡ y.at → literal_of x ≡ literal_of y

-- what is found of a literal is its one place
abbrev pub IsFound : Image → Literal → Option ℕ → Type 0
IsFound i l found = (at : ℕ) → (found ≡ Some at) ↔ (literal_in i at ≡ Some l)

-- the word at an address of the text area gets a part of an address
pub record FixesWord (at kind : ℕ) (second : Bool) (target : ℕ) (old new : Image) : Type 0 where
  pub words : (pc : ℕ) → word_at new pc ≡ (if nat_lt pc 0x00100000 then word_at old pc else option_map (λ w. if at == pc then relocated kind second target w else w) (word_at old pc))
  pub count : count_of new ≡ count_of old
  pub keys : SameKeys old new
  pub values : SameValues old new
  pub texts : SameTexts old new
  pub literals : SameLiterals old new
  pub room : Spends old new 0 0 0 0

-- relocations are made
pub record Relocates (value : Key → Option ℕ) (fixes : List Fix) (old new : Image) : Type 0 where
  pub words : (pc : ℕ) → word_at new pc ≡ (if nat_lt pc 0x00100000 then word_at old pc else option_map (fixed_all value fixes pc) (word_at old pc))
  pub count : count_of new ≡ count_of old
  pub keys : SameKeys old new
  pub values : SameValues old new
  pub texts : SameTexts old new
  pub literals : SameLiterals old new
  pub room : Spends old new 0 0 0 0

-- nothing is found
pub record IsBare (i : Image) : Type 0 where
  pub count : count_of i ≡ 0
  pub keys : (at : ℕ) → key_of i at ≡ None
  pub values : (q : Key) → value_of i q ≡ None
  pub words : (pc : ℕ) → word_at i pc ≡ None
  pub texts : (pc : ℕ) → text_at i pc ≡ None
  pub literals : (at : ℕ) → literal_in i at ≡ None

-- an image of these functions, statics, stubs that lead to texts, texts without relocations, and literals
pub record HasParts (funs : List Key) (statics jumps : List (Key × ℕ)) (placed : List Text) (named : List LiteralAt) (i : Image) : Type 0 where
  pub count : count_of i ≡ length funs
  pub keys : (at : ℕ) → key_of i at ≡ key_in funs at
  pub values : (q : Key) → value_of i q ≡ option_or (stub_from 0 funs q) (place_in statics q)
  pub words : (pc : ℕ) → word_at i pc ≡ (if nat_lt pc 0x00100000 then stub_in jumps funs pc else text_word placed pc)
  pub texts : (pc : ℕ) → text_at i pc ≡ (if nat_lt pc 0x00100000 then None else where_of (text_holding placed pc))
  pub literals : HasLiterals named i
