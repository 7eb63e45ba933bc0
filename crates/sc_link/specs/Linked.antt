-- Yardstick: to be compared with what it restates (docs/TRUST.md).
-- The image of a list of entries and of the functions by their numbers.
use Rattle.std.specs.Prelude.{◌≡◌, ◌↔◌, ℕ, ◌+◌, ◌*◌, ◌%◌, ◌==◌, ◌&&◌, ◌<◌, ◌≤◌, Bool, true, false, if◌then◌else◌, nat_lt, nat_le, List, [], ◌∷◌, length, find, reverse, slice_get, Option, Some, None, option_and_then}
use Rattle.std.specs.Option.{option_map, option_or}
use Rattle.std.specs.Str.{bytes_eq}
use Rattle.std.specs.Map.{lookup}
use Rattle.sc_base.specs.declared.key.Key.{Key}
use Rattle.sc_isa_image.specs.declared.image.Image.{Image}
use Rattle.sc_isa_image.specs.declared.literals.Literal.{Literal}
use Rattle.sc_isa_image.specs.declared.text.Text.{Text}
use Rattle.sc_isa_image.specs.declared.text.TextAt.{TextAt}
use Rattle.sc_isa_image.specs.Literals as named
use Rattle.sc_isa_image.specs.Stubs.{call_words, jump_words, stub_address, stub_of_word}
use Rattle.sc_isa_image.specs.Texts.{end_of, holds, place_of as where_of, text_holding, text_word}
use Rattle.sc_isa_image.specs.Lookups.{functions_of, key_eq, key_of, literal_in, text_at, value_of, word_at}
use Rattle.sc_link.specs.declared.placed.Placed.{Placed}
use Rattle.sc_link.specs.declared.placed.LiteralAt.{LiteralAt}
use Rattle.sc_link.specs.Relocation.{relocated, target_of}
use Rattle.sc_link.specs.Entries.{Base, OfKey, Place, Fix, fixes_in, jumps_in, literals_in, statics_in, texts_in}

-- the stub of a function, by the functions from number n on
abbrev pub stub_from : ℕ → List Key → Key → Option ℕ
stub_from n [] key = None
stub_from n (k ∷ ks) key = if key_eq k key then Some (stub_address n) else stub_from (n + 1) ks key

-- what a list of keys with places has for a key, the first of them
abbrev pub place_in : List (Key × ℕ) → Key → Option ℕ
place_in places key = lookup (λ k. key_eq k key) places

-- the value of a key: a function's stub, or the place of the object that a present entry defines
abbrev pub value_in : List Placed → List Key → Key → Option ℕ
value_in es funs key = option_or (stub_from 0 funs key) (place_in (statics_in es) key)

-- the function whose stub begins at an address
abbrev pub key_in : List Key → ℕ → Option Key
key_in funs at = if at % 8 == 0 then option_and_then (slice_get funs) (stub_of_word at) else None

-- a function's stub leads to its text in a present entry of object form, else it asks for the service
abbrev pub stub_words : Option ℕ → List ℕ
stub_words None = call_words
stub_words (Some at) = jump_words at

abbrev pub stub_half : ℕ → List ℕ → Option ℕ
stub_half pc words = if pc % 8 == 0 then slice_get words 0 else slice_get words 1

abbrev pub stub_in : List (Key × ℕ) → List Key → ℕ → Option ℕ
stub_in jumps funs pc = option_and_then (λ n. option_and_then (λ key. stub_half pc (stub_words (place_in jumps key))) (slice_get funs n)) (stub_of_word pc)

-- an object without definition has value 0
abbrev pub or_zero : Option ℕ → ℕ
or_zero None = 0
or_zero (Some n) = n

abbrev pub base_value : (Key → Option ℕ) → Base → ℕ
base_value value (OfKey key) = or_zero (option_and_then value key)
base_value value (Place at) = or_zero at

-- a word with its relocation
abbrev pub fixed_by : (Key → Option ℕ) → Fix → ℕ → ℕ
fixed_by value f word = relocated f.kind f.second (target_of f.kind (base_value value f.base) f.addend f.place) word

-- a word with each relocation at its address, in their order
abbrev pub fixed_all : (Key → Option ℕ) → List Fix → ℕ → ℕ → ℕ
fixed_all value [] pc word = word
fixed_all value (f ∷ fs) pc word = fixed_all value fs pc (if f.at == pc then fixed_by value f word else word)

-- the word of a text at an address, with its relocations
abbrev pub text_word_in : (Key → Option ℕ) → List Fix → List Text → ℕ → Option ℕ
text_word_in value fixes texts pc = option_map (fixed_all value fixes pc) (text_word texts pc)

abbrev pub word_in : List Placed → List Key → ℕ → Option ℕ
word_in es funs pc =
    if nat_lt pc 0x00100000 then stub_in (jumps_in es) funs pc
    else text_word_in (value_in es funs) (fixes_in es) (texts_in es) pc

-- the text that holds an address of the text area
abbrev pub text_in : List Placed → ℕ → Option TextAt
text_in es pc = if nat_lt pc 0x00100000 then None else where_of (text_holding (texts_in es) pc)

abbrev pub is_literal_at : Literal → LiteralAt → Bool
is_literal_at l p = bytes_eq p.«module» l.«module» && bytes_eq p.bytes l.bytes

abbrev pub at_of : Option LiteralAt → Option ℕ
at_of p = option_map (λ (q : LiteralAt). q.at) p

-- the place of a literal: in the last entry that holds it
abbrev pub literal_place : List LiteralAt → Literal → Option ℕ
literal_place literals l = at_of (find (is_literal_at l) (reverse literals))

-- no key twice
abbrev pub AreDistinct : List Key → Type 0
AreDistinct ks = (m n : ℕ) (k : Key) → slice_get ks m ≡ Some k → slice_get ks n ≡ Some k → m ≡ n

-- no two texts hold one address
abbrev pub AreApart : List Text → Type 0
AreApart ts = (m n : ℕ) (t u : Text) (pc : ℕ) → slice_get ts m ≡ Some t → slice_get ts n ≡ Some u → holds pc t ≡ true → holds pc u ≡ true → m ≡ n

abbrev pub literal_of : LiteralAt → Literal
literal_of x = named.literal_of x.«module» x.bytes

-- no two literals have one place
abbrev pub AreOnePlaced : List LiteralAt → Type 0
AreOnePlaced xs = (m n : ℕ) (x y : LiteralAt) → slice_get xs m ≡ Some x → slice_get xs n ≡ Some y → x.at ≡ y.at → literal_of x ≡ literal_of y

-- The image has just these functions, values, words, texts and literals.
pub record IsLinked (es : List Placed) (funs : List Key) (i : Image) : Type 0 where
  pub count : length (functions_of i) ≡ length funs
  pub keys : (at : ℕ) → key_of i at ≡ key_in funs at
  pub values : (key : Key) → value_of i key ≡ value_in es funs key
  pub words : (pc : ℕ) → word_at i pc ≡ word_in es funs pc
  pub texts : (pc : ℕ) → text_at i pc ≡ text_in es pc
  pub literals : (l : Literal) (at : ℕ) → (literal_in i at ≡ Some l) ↔ (literal_place (literals_in es) l ≡ Some at)
