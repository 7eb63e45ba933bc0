-- What an operator on integers answered.
use Rattle.std.proofs.Common.{◌≡◌, ℕ, refl, Option, Some, None, MatchResult}
use Rattle.sc_base.specs.declared.report.Rule.{Rule}
use Rattle.sc_ops.specs.Operators.{unless_broken}

-- the rule is broken, or this is the value
pub answered : (rule : Option Rule) (v : ℕ) → MatchResult (unless_broken rule v) (λ n. (rule ≡ None) × (v ≡ n)) (λ r. rule ≡ Some r)
answered None v = (refl, refl)
answered (Some r) v = refl
