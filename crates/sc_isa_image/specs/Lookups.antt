-- Yardstick: to be compared with what it restates (docs/TRUST.md).
-- The look-ups of an image.
use Rattle.std.specs.Prelude.{◌≡◌, ℕ, ◌+◌, ◌≤◌, ◌/◌, ◌*◌, ◌^◌, ◌-◌, ◌&&◌, Bool, false, min, nat_lt, if◌then◌else◌, List, [], Option, None, Some}
use Rattle.std.specs.Option.{option_eq}
use Rattle.std.specs.Str.{bytes_eq}
use Rattle.std.specs.Map.{lookup}
use Rattle.std.specs.HashMap.{spare}
use Rattle.sc_base.specs.declared.key.Key.{Key}
use Rattle.sc_isa_image.specs.declared.image.Image.{Image}
use Rattle.sc_isa_image.specs.declared.literals.Literal.{Literal}
use Rattle.sc_isa_image.specs.declared.stub.Stub.{Stub}
use Rattle.sc_isa_image.specs.declared.text.Text.{Text}
use Rattle.sc_isa_image.specs.declared.text.TextAt.{TextAt}
use Rattle.sc_isa_image.specs.Literals.{literal_at}
use Rattle.sc_isa_image.specs.Stubs.{Functions, key_at, led, stub_word}
use Rattle.sc_isa_image.specs.Texts.{place_of, text_holding, text_word}

-- two keys are equal
abbrev pub key_eq : Key → Key → Bool
key_eq j k = option_eq bytes_eq j.«module» k.«module» && bytes_eq j.name k.name

-- the placed texts
abbrev pub texts_of : Image → List Text
texts_of i = i.texts.texts

-- the functions by their numbers, with their stubs
abbrev pub functions_of : Image → Functions
functions_of i = i.functions.entries

-- the function with a key
abbrev pub function_of : Image → Key → Option Stub
function_of i k = lookup (key_eq k) (functions_of i)

-- the word at an address, of a text or of a stub
abbrev pub word_at : Image → ℕ → Option ℕ
word_at i pc = if nat_lt pc 0x00100000 then stub_word (functions_of i) pc else text_word (texts_of i) pc

-- the text that holds an address of the text area
abbrev pub text_at : Image → ℕ → Option TextAt
text_at i pc = if nat_lt pc 0x00100000 then None else place_of (text_holding (texts_of i) pc)

-- the function whose stub begins at an address
abbrev pub key_of : Image → ℕ → Option Key
key_of i at = key_at (functions_of i) at

abbrev pub stub_value : Option Stub → Option ℕ
stub_value None = None
stub_value (Some stub) = stub.value

abbrev pub value_or : Option ℕ → Option ℕ → Option ℕ
value_or None other = other
value_or (Some at) other = Some at

-- the value of a key: its own, or else that of its stub
abbrev pub value_of : Image → Key → Option ℕ
value_of i k = value_or (lookup (key_eq k) i.values.entries) (stub_value (function_of i k))

-- the text to which a function's stub leads
abbrev pub stub_target : Option Stub → Option ℕ
stub_target None = None
stub_target (Some stub) = led stub.first stub.second

abbrev pub target_of : Image → Key → Option ℕ
target_of i k = stub_target (function_of i k)

-- an address is in the stub of a function
abbrev pub has_key : Option Key → Key → Bool
has_key None k = false
has_key (Some j) k = key_eq j k

abbrev pub is_stub_of : Image → Key → ℕ → Bool
is_stub_of i k pc = nat_lt pc 0x00100000 && has_key (key_of i (pc / 8 * 8)) k

-- how many words were written since the image was made, and how many there are after some more, at most 2^64 - 1
abbrev pub written_of : Image → ℕ
written_of i = i.written

abbrev pub and_more : ℕ → ℕ → ℕ
and_more written more = min (written + more) (2 ^ 64 - 1)

-- the literal at a place
abbrev pub literal_in : Image → ℕ → Option Literal
literal_in i at = literal_at i.literals.places at

-- how many more texts, values, literals and functions can be put without memory
abbrev pub text_room : Image → ℕ
text_room i = i.texts.room

abbrev pub value_room : Image → ℕ
value_room i = spare i.values

abbrev pub literal_room : Image → ℕ
literal_room i = i.literals.room

abbrev pub function_room : Image → ℕ
function_room i = spare i.functions

-- a change that takes this much room
pub record Spends (old new : Image) (texts values literals functions : ℕ) : Type 0 where
  pub for_texts : text_room old ≤ text_room new + texts
  pub for_values : value_room old ≤ value_room new + values
  pub for_literals : literal_room old ≤ literal_room new + literals
  pub for_functions : function_room old ≤ function_room new + functions

abbrev pub SameWords : Image → Image → Type 0
SameWords old new = (pc : ℕ) → word_at new pc ≡ word_at old pc

abbrev pub SameTexts : Image → Image → Type 0
SameTexts old new = (pc : ℕ) → text_at new pc ≡ text_at old pc

abbrev pub SameKeys : Image → Image → Type 0
SameKeys old new = (at : ℕ) → key_of new at ≡ key_of old at

abbrev pub SameValues : Image → Image → Type 0
SameValues old new = (k : Key) → value_of new k ≡ value_of old k

abbrev pub SameTargets : Image → Image → Type 0
SameTargets old new = (k : Key) → target_of new k ≡ target_of old k

abbrev pub SameLiterals : Image → Image → Type 0
SameLiterals old new = (at : ℕ) → literal_in new at ≡ literal_in old at

-- nothing is found
pub record IsBlank (i : Image) : Type 0 where
  pub words : (pc : ℕ) → word_at i pc ≡ None
  pub texts : (pc : ℕ) → text_at i pc ≡ None
  pub functions : functions_of i ≡ []
  pub values : (k : Key) → value_of i k ≡ None
  pub literals : (at : ℕ) → literal_in i at ≡ None
  pub targets : (k : Key) → target_of i k ≡ None
  pub written : written_of i ≡ 0
