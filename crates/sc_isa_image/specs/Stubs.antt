-- Yardstick: to be compared with what it restates (docs/TRUST.md).
-- Stubs of functions, and addresses in two parts.
use Rattle.std.specs.Prelude.{ℕ, zero, suc, Bool, true, false, ◌+◌, ◌-◌, ◌*◌, ◌/◌, ◌%◌, ◌^◌, ◌==◌, ◌&&◌, nat_lt, if◌then◌else◌, List, [], ◌∷◌, slice_get, Option, Some, None, ℤ, pos}
use Rattle.std.specs.Option.{option_map}
use Rattle.std.specs.Int.{w32, cast_unsigned}
use Rattle.sc_base.specs.declared.key.Key.{Key}
use Rattle.sc_isa.specs.declared.instruction.Instr.{Instr}
use Rattle.sc_isa.specs.declared.instruction.Instr.TheVariants.{Lui, Jalr, Imm, Ecall}
use Rattle.sc_isa.specs.declared.instruction.ImmOp.TheVariants.{Addi}
use Rattle.sc_isa.specs.Table.{word_of}
use Rattle.sc_isa.specs.Reading.{extend, instr_of}
use Rattle.sc_isa_image.specs.declared.stub.Stub.{Stub}

-- the upper 20 bits of an address, one more where its lower 12 bits are taken as negative
abbrev pub upper_of : ℕ → ℕ
upper_of at = (at + 2048) % 2 ^ 32 / 2 ^ 12

-- the lower 12 bits with their sign
abbrev pub lower_of : ℕ → ℤ
lower_of at = extend 2048 (at % 2 ^ 12)

-- the stub of a function that is not in object form asks for service 1
abbrev pub call_words : List ℕ
call_words = word_of (Imm Addi 5 0 (pos 1)) ∷ word_of Ecall ∷ []

-- the stub of a function in object form jumps to its text
abbrev pub jump_words : ℕ → List ℕ
jump_words at = word_of (Lui 6 (upper_of at)) ∷ word_of (Jalr 0 6 (lower_of at)) ∷ []

-- the upper part that a `lui t1` loads, and the lower part that a `jalr x0` by t1 adds
abbrev pub upper_part : Option Instr → Option ℕ
upper_part (Some (Lui rd upper)) = if rd == 6 then Some upper else None
upper_part _ = None

abbrev pub lower_part : Option Instr → Option ℤ
lower_part (Some (Jalr rd base lower)) = if (rd == 0) && (base == 6) then Some lower else None
lower_part _ = None

abbrev pub joined : Option ℕ → Option ℤ → Option ℕ
joined (Some upper) (Some lower) = Some ((upper * 2 ^ 12 + cast_unsigned w32 lower) % 2 ^ 32)
joined _ _ = None

-- the address to which two words lead that are a `lui t1` and a `jalr x0` by t1
abbrev pub led : ℕ → ℕ → Option ℕ
led first second = joined (upper_part (instr_of first)) (lower_part (instr_of second))

abbrev pub led_by : Option ℕ → Option ℕ → Option ℕ
led_by (Some first) (Some second) = led first second
led_by _ _ = None

-- the address of a function's stub, by the function's number
abbrev pub stub_address : ℕ → ℕ
stub_address n = 0x00010000 + 8 * n

-- the function in whose stub a word at an address stands
abbrev pub stub_of_word : ℕ → Option ℕ
stub_of_word pc = if nat_lt pc 0x00010000 then None else if pc % 4 == 0 then Some ((pc - 0x00010000) / 8) else None

-- the functions by their numbers, with their stubs
abbrev pub Functions : Type 0
Functions = List (Key × Stub)

abbrev pub function_at : Functions → Option ℕ → Option (Key × Stub)
function_at functions None = None
function_at functions (Some n) = slice_get functions n

abbrev pub half : ℕ → Stub → ℕ
half pc stub = if pc % 8 == 0 then stub.first else stub.second

-- the word at an address in a stub
abbrev pub stub_word : Functions → ℕ → Option ℕ
stub_word functions pc = option_map (λ e. half pc e.1) (function_at functions (stub_of_word pc))

-- the function whose stub begins at an address
abbrev pub key_at : Functions → ℕ → Option Key
key_at functions at = if at % 8 == 0 then option_map (λ e. e.0) (function_at functions (stub_of_word at)) else None

-- the stub of a new function
abbrev pub new_stub : ℕ → Stub
new_stub n = record { value = Some (stub_address n); first = word_of (Imm Addi 5 0 (pos 1)); second = word_of Ecall }

-- what is seen of a function by its number: its key, and the words of its stub
abbrev pub face : Key × Stub → Key × (ℕ × ℕ)
face e = (e.0, (e.1.first, e.1.second))

-- a stub with another word in one of its halves
abbrev pub with_half : Bool → ℕ → Stub → Stub
with_half true word stub = record stub { first = word }
with_half false word stub = record stub { second = word }

-- the functions with another word in the stub of one
abbrev pub set_at : Functions → ℕ → Bool → ℕ → Functions
set_at [] n first word = []
set_at (e ∷ es) zero first word = (e.0, with_half first word e.1) ∷ es
set_at (e ∷ es) (suc n) first word = e ∷ set_at es n first word
