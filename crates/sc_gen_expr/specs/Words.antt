-- Yardstick: to be compared with what it restates (docs/TRUST.md).
-- The words of a text as they stand in an object, the relocations that fill in addresses, and the targets that these name (RISC-V psABI).
use Rattle.std.specs.Prelude.{ℕ, ◌+◌, ◌^◌, ◌%◌, ◌==◌, nat_lt, min, Bool, true, false, ◌&&◌, if◌then◌else◌, List, [], ◌∷◌, ◌++◌, fold, map, flat_map, int_le, Option, Some, None, ℤ, pos, negsuc}
use Rattle.std.specs.Int.{w32, cast_unsigned}
use Rattle.std.specs.List.{list_any, position_or_len}
use Rattle.std.specs.Option.{option_eq}
use Rattle.std.specs.Str.{bytes_eq}
use Rattle.sc_base.specs.declared.key.Key.{Key}
use Rattle.sc_isa.specs.declared.instruction.Instr.{Instr}
use Rattle.sc_isa.specs.declared.instruction.Instr.TheVariants.{Lui, Auipc, Jal, Jalr, Branch, Load, Store, Imm, Reg, Ecall, Fence}
use Rattle.sc_isa.specs.declared.instruction.ImmOp.{ImmOp}
use Rattle.sc_isa.specs.declared.instruction.ImmOp.TheVariants.{Slli, Srli, Srai}
use Rattle.sc_isa.specs.Table.{word_of}
use Rattle.sc_object.specs.declared.object.Reloc.{Reloc}
use Rattle.sc_gen_code.specs.declared.symbolic.Symbolic.{Symbolic}
use Rattle.sc_gen_code.specs.declared.symbolic.Symbolic.TheVariants.{Plain, Upper, Lower, Call}
use Rattle.sc_gen_code.specs.declared.symbolic.Target.{Target}
use Rattle.sc_gen_code.specs.declared.symbolic.Target.TheVariants.{Named, Literal}
use Rattle.sc_gen_code.specs.declared.symbolic.Access.{Access}
use Rattle.sc_gen_code.specs.declared.symbolic.Access.TheVariants as access
use Rattle.sc_gen_code.specs.Code.{Code, ra, t0, accessed}
use Rattle.sc_gen_code.specs.Operators.{is_short}

abbrev pub is_between : ℤ → ℤ → ℤ → Bool
is_between low high z = int_le low z && int_le z high

abbrev pub is_even : ℤ → Bool
is_even z = cast_unsigned w32 z % 2 == 0

abbrev pub is_immediate : ImmOp → ℤ → Bool
is_immediate Slli z = is_between (pos 0) (pos 31) z
is_immediate Srli z = is_between (pos 0) (pos 31) z
is_immediate Srai z = is_between (pos 0) (pos 31) z
is_immediate _ z = is_short z

-- whether the numbers of an instruction fit their fields
abbrev pub is_sound : Instr → Bool
is_sound (Lui rd upper) = nat_lt rd 32 && nat_lt upper (2 ^ 20)
is_sound (Auipc rd upper) = nat_lt rd 32 && nat_lt upper (2 ^ 20)
is_sound (Jal rd offset) = nat_lt rd 32 && is_even offset && is_between (negsuc 1048575) (pos 1048574) offset
is_sound (Jalr rd rs offset) = nat_lt rd 32 && nat_lt rs 32 && is_short offset
is_sound (Branch o rs rt offset) = nat_lt rs 32 && nat_lt rt 32 && is_even offset && is_between (negsuc 4095) (pos 4094) offset
is_sound (Load o rd base offset) = nat_lt rd 32 && nat_lt base 32 && is_short offset
is_sound (Store o rs base offset) = nat_lt rs 32 && nat_lt base 32 && is_short offset
is_sound (Imm o rd rs n) = nat_lt rd 32 && nat_lt rs 32 && is_immediate o n
is_sound (Reg o rd rs rt) = nat_lt rd 32 && nat_lt rs 32 && nat_lt rt 32
is_sound Ecall = true
is_sound Fence = true

-- an instruction whose numbers do not fit, as a jump out of reach, is written as 0, which is no instruction
abbrev pub plain_word : Instr → ℕ
plain_word i = if is_sound i then word_of i else 0

abbrev pub symbolic_word : Symbolic → ℕ
symbolic_word (Plain i) = plain_word i
symbolic_word (Upper target) = word_of (Lui t0 0)
symbolic_word (Lower what target) = plain_word (accessed what t0 (pos 0))
symbolic_word (Call target) = word_of (Auipc ra 0)

-- R_RISCV_LO12_S for a store, else R_RISCV_LO12_I
abbrev pub lower_kind : Access → ℕ
lower_kind (access.Load o rd) = 27
lower_kind (access.Store o rs) = 28
lower_kind (access.Address rd) = 27

-- R_RISCV_HI20, LO12_I or LO12_S, and CALL_PLT
abbrev pub relocation : Symbolic → Option (ℕ × Target)
relocation (Plain i) = None
relocation (Upper target) = Some (26, target)
relocation (Lower what target) = Some (lower_kind what, target)
relocation (Call target) = Some (19, target)

abbrev pub key_eq : Key → Key → Bool
key_eq a b = option_eq bytes_eq a.«module» b.«module» && bytes_eq a.name b.name

abbrev pub target_eq : Target → Target → Bool
target_eq (Named a) (Named b) = key_eq a b
target_eq (Literal m) (Literal n) = m == n
target_eq _ _ = false

-- the targets that were named, in the order in which they were named first
abbrev pub mention : List Target → Target → List Target
mention known target = if list_any (target_eq target) known then known else known ++ target ∷ []

-- the number of a target among them
abbrev pub number_of : List Target → Target → ℕ
number_of known target = position_or_len (target_eq target) known

abbrev pub word_target : Symbolic → List Target
word_target (Plain i) = []
word_target (Upper target) = target ∷ []
word_target (Lower what target) = target ∷ []
word_target (Call target) = target ∷ []

-- the targets of a text
abbrev pub targets : Code → List Target
targets code = flat_map word_target code

abbrev pub mention_all : List Target → List Target → List Target
mention_all known more = fold mention known more

-- numbers above are counted as this one; those of a file that is written are far below
abbrev pub fitted : ℕ → ℕ
fitted n = min n 4294967295

-- the relocation of a word at an offset of a section, where it has one
abbrev pub relocs_of : List Target → ℕ → ℕ → Option (ℕ × Target) → List Reloc
relocs_of known section at None = []
relocs_of known section at (Some r) =
    record { section = section; at = fitted at; kind = r.0; symbol = fitted (number_of known r.1); addend = pos 0 } ∷ []

-- the relocations of words from an offset on, by the numbers of their targets
abbrev pub relocs : List Target → ℕ → ℕ → Code → List Reloc
relocs known section at [] = []
relocs known section at (x ∷ xs) = relocs_of known section at (relocation x) ++ relocs known section (at + 4) xs

abbrev pub words : Code → List ℕ
words code = map symbolic_word code
