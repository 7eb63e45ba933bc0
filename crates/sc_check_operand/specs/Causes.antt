-- Inside: plumbing, a representation, an invariant or a promise beside the claim (docs/TRUST.md).
-- The kinds of refusals.
use Rattle.std.specs.Prelude.{codes}
use Rattle.sc_base.specs.declared.refusal.X.{X}
use Rattle.sc_base.specs.declared.refusal.X.TheVariants as x
use Rattle.sc_check_operand.specs.declared.fault.Cause.{Cause}
use Rattle.sc_check_operand.specs.declared.fault.Cause.TheVariants as cause

abbrev pub kind_of : Cause → X
kind_of cause.Undeclared = x.X6
kind_of cause.Mismatch = x.X7
kind_of cause.NotConstant = x.X8
kind_of cause.PointerInteger = x.X9 (codes "ptrint")
kind_of cause.FunctionPointer = x.X9 (codes "funptr")
kind_of cause.Printf = x.X9 (codes "printf")
kind_of cause.Size = x.X10 (codes "size")
