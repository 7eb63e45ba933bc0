-- Inside: plumbing, a representation, an invariant or a promise beside the claim (docs/TRUST.md).
-- The operations with constants by which a register's number becomes one of an integer type (ANSI 3.2.1.2).
use Rattle.std.specs.Prelude.{List, [], ◌∷◌, ℤ, pos, if◌then◌else◌}
use Rattle.sc_base.specs.declared.integer.Int.{Int}
use Rattle.sc_base.specs.declared.integer.Int.TheVariants as int
use Rattle.sc_base.specs.declared.memory.Word.{Word}
use Rattle.sc_isa.specs.declared.instruction.ImmOp.{ImmOp}
use Rattle.sc_isa.specs.declared.instruction.ImmOp.TheVariants.{Slli, Srli, Srai, Andi}
use Rattle.sc_types.specs.Compatibility.{same_int}
use Rattle.sc_emu.specs.Operations.{with_constant, bits_of}

abbrev pub Constants : Type 0
Constants = List (ImmOp × ℤ)

abbrev pub narrowing : Int → Constants
narrowing int.Char = (Andi, pos 255) ∷ []
narrowing int.UChar = (Andi, pos 255) ∷ []
narrowing int.SChar = (Slli, pos 24) ∷ (Srai, pos 24) ∷ []
narrowing int.Short = (Slli, pos 16) ∷ (Srai, pos 16) ∷ []
narrowing int.UShort = (Slli, pos 16) ∷ (Srli, pos 16) ∷ []
narrowing int.Int = []
narrowing int.UInt = []
narrowing int.Long = []
narrowing int.ULong = []

-- none where a value of one type is one of the other as it stands
abbrev pub renarrowing : Int → Int → Constants
renarrowing from to = if same_int from to then [] else narrowing to

-- what they make of a word
abbrev pub by_constants : Constants → Word → Word
by_constants [] w = w
by_constants (o ∷ os) w = by_constants os (with_constant o.0 w (bits_of o.1))
