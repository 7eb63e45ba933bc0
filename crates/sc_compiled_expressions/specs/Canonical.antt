-- Inside: plumbing, a representation, an invariant or a promise beside the claim (docs/TRUST.md).
-- When the values of an expression are such that the code of a conversion makes the value that is meant.
use Rattle.std.specs.Prelude.{◌≡◌, ℕ, ◌==◌, Bool, true, ◌&&◌}
use Rattle.sc_base.specs.declared.integer.Int.{Int}
use Rattle.sc_core.specs.declared.expression.CoreExpr.{CoreExpr}
use Rattle.sc_types.specs.declared.ctype.CType.{CType}
use Rattle.sc_ops.specs.Numbers.{converted}
use Rattle.sc_meaning.specs.Calls.{eval}
use Rattle.sc_meaning.specs.Expressions.{Env, valued}
use Rattle.sc_meaning.specs.Outcomes.{Done, Outcome, Over}
use Rattle.sc_meaning.specs.Values.{FunctionAt, Number, Pointer, Value, int_of}
use Rattle.sc_meaning.specs.Versions.{History}
use Rattle.sc_meaning.specs.World.{World}
use Rattle.sc_compiled_expressions.specs.Footed.{may_be}

-- a number is one of the range of a type
abbrev pub is_in_range : Int → Value → Bool
is_in_range i (Number n) = converted n i == n
is_in_range i (FunctionAt k) = true
is_in_range i (Pointer o at) = true

-- a value of one type that may be one of another
abbrev pub converts : CType → CType → Value → Bool
converts from to v = is_in_range (int_of from) v && may_be to v

abbrev pub AreConverted : CType → CType → Outcome Value → Type 0
AreConverted from to (Done v w) = converts from to v ≡ true
AreConverted from to (Over e) = Unit {0}

-- the values of an expression are such
abbrev pub ConvertsTo : Env → CoreExpr → CType → CType → Type 0
ConvertsTo env e from to = (n : ℕ) (h : History) (v : World) → AreConverted from to (valued (eval n h) env e v)
