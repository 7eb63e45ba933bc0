-- Yardstick: to be compared with what it restates (docs/TRUST.md).
-- Code each of whose words is one of an instruction, also where an address is filled in later (RISC-V psABI).
use Rattle.std.specs.Prelude.{◌≡◌, true, nat_lt, [], ◌∷◌, pos}
use Rattle.std.specs.List.{list_all}
use Rattle.sc_isa.specs.declared.instruction.Instr.{Instr}
use Rattle.sc_isa.specs.declared.instruction.Instr.TheVariants.{Jalr}
use Rattle.sc_isa.specs.Table.{IsSound}
use Rattle.sc_gen_code.specs.declared.style.Kept.{Kept}
use Rattle.sc_gen_code.specs.declared.style.Style.{Style}
use Rattle.sc_gen_code.specs.declared.symbolic.Symbolic.{Symbolic}
use Rattle.sc_gen_code.specs.declared.symbolic.Symbolic.TheVariants.{Plain, Upper, Lower, Call}
use Rattle.sc_gen_code.specs.Code.{Code, t0, accessed}

-- an instruction whose numbers fit their fields, or one that waits for an address in a field that has room for it
abbrev pub Fits : Symbolic → Type 0
Fits (Plain i) = IsSound i
Fits (Upper target) = Unit {0}
Fits (Lower what target) = IsSound (accessed what t0 (pos 0))
Fits (Call target) = Unit {0}

abbrev pub IsLink : Instr → Type 0
IsLink (Jalr rd rs z) = Unit {0}
IsLink _ = ⊥

-- the second word of a call by name is a `jalr`, in which the lower part of the distance is filled in
abbrev pub Links : Code → Type 0
Links (Plain i ∷ xs) = IsLink i
Links _ = ⊥

abbrev pub Follows : Symbolic → Code → Type 0
Follows (Call target) xs = Links xs
Follows _ xs = Unit {0}

abbrev pub IsSoundCode : Code → Type 0
IsSoundCode [] = Unit {0}
IsSoundCode (x ∷ xs) = (Fits x × Follows x xs) × IsSoundCode xs

-- the copies of a style stand in registers that there are
pub record HasRegisters (st : Style) : Type 0 where
  pub registers : list_all (λ (k : Kept). nat_lt k.register 32) st.kept ≡ true
