use Rattle.std.proofs.Common.{◌≡◌, [], ◌∷◌, drop, map}
use Rattle.sc_check_declare.specs.declared.derivation.Derived.TheVariants as d
use Rattle.sc_check_scope.specs.Steps.{each}
use Rattle.sc_check_expr.specs.Typed.{stepping, one_step}
use Rattle.sc_check_expr.proofs.defining.type_behind.Given as goal

-- what the rest gives from here is what all give from the beginning
abbrev pub invariant-loop-x : goal.invariant-loop-x
invariant-loop-x l =
    each (one_step l.line) (map stepping (drop l.x-index l.rest)) l.steps l.st ≡ each (one_step l.line) (map stepping l.rest) (d.Function l.fn.own ∷ []) l.fn.st
