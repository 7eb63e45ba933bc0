use Rattle.std.proofs.Common.{◌≡◌, length}
use Rattle.sc_check_declare.specs.Declarators.{declarator}
use Rattle.sc_check_declare.proofs.derivation.declarator.Given as goal

abbrev pub invariant-loop-step : goal.invariant-loop-step
invariant-loop-step l = declarator l.structs l.line l.steps l.made ≡ declarator l.structs l.line l.fn.steps l.fn.base

abbrev pub decreases-loop-step : goal.decreases-loop-step
decreases-loop-step l = length l.steps
