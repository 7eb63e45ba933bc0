use Rattle.std.proofs.Common.{◌≡◌, ◌≤◌, length}
use Rattle.sc_pp_condition.specs.Decides.{is_deep}
use Rattle.sc_pp_condition.proofs.truth.is_deep.Given as goal

abbrev pub invariant-terms : goal.invariant-terms
invariant-terms l = record {
  whole : is_deep l.count l.left ≡ is_deep 0 l.fn.terms;
  few : l.count ≤ 500;
}

abbrev pub decreases-terms : goal.decreases-terms
decreases-terms l = length l.left
