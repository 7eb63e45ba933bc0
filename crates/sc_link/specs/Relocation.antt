-- Yardstick: to be compared with what it restates (docs/TRUST.md).
-- What a relocation makes of a word (RISC-V ELF psABI, "Relocations").
use Rattle.std.specs.Prelude.{ℕ, ◌+◌, ◌-◌, ◌*◌, ◌/◌, ◌%◌, ◌^◌, ◌==◌, Bool, if◌then◌else◌, List, [], ◌∷◌, ℤ}
use Rattle.std.specs.Int.{w32, cast_unsigned}
use Rattle.sc_isa_image.specs.Stubs.{upper_of}

-- the words that bytes make, the lowest byte first
abbrev pub words : List ℕ → List ℕ
words [] = []
words (a ∷ []) = []
words (a ∷ b ∷ []) = []
words (a ∷ b ∷ c ∷ []) = []
words (a ∷ b ∷ c ∷ d ∷ rest) = (a + b * 2 ^ 8 + c * 2 ^ 16 + d * 2 ^ 24) ∷ words rest

-- S + A
abbrev pub sum_of : ℕ → ℤ → ℕ
sum_of s a = (s + cast_unsigned w32 a) % 2 ^ 32

-- S + A - P
abbrev pub distance_of : ℕ → ℤ → ℕ → ℕ
distance_of s a p = (sum_of s a + (2 ^ 32 - p)) % 2 ^ 32

-- R_RISCV_CALL_PLT is relative to its place
abbrev pub target_of : ℕ → ℕ → ℤ → ℕ → ℕ
target_of kind s a p = if kind == 19 then distance_of s a p else sum_of s a

-- the upper 20 bits of a U-type instruction
abbrev pub with_upper : ℕ → ℕ → ℕ
with_upper at word = word % 2 ^ 12 + upper_of at * 2 ^ 12

-- the 12 bits of an I-type instruction
abbrev pub with_lower : ℕ → ℕ → ℕ
with_lower at word = word % 2 ^ 20 + at % 2 ^ 12 * 2 ^ 20

-- the 12 bits of an S-type instruction, which stand in two parts
abbrev pub with_split : ℕ → ℕ → ℕ
with_split at word = word % 2 ^ 7 + at % 2 ^ 5 * 2 ^ 7 + word / 2 ^ 12 % 2 ^ 13 * 2 ^ 12 + at / 2 ^ 5 % 2 ^ 7 * 2 ^ 25

-- R_RISCV_32, R_RISCV_HI20, R_RISCV_LO12_I, R_RISCV_LO12_S, and both words of R_RISCV_CALL_PLT
abbrev pub relocated : ℕ → Bool → ℕ → ℕ → ℕ
relocated kind second at word =
    if kind == 1 then at
    else if kind == 26 then with_upper at word
    else if kind == 27 then with_lower at word
    else if kind == 28 then with_split at word
    else if kind == 19 then (if second then with_lower at word else with_upper at word)
    else word
