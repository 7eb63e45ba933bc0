use Rattle.std.proofs.Common.{◌≡◌, ◌≤◌, ◌+◌, drop}
use Rattle.sc_session_conflicts.specs.Spaces as spec
use Rattle.sc_session_conflicts.proofs.space.modules_with.Given as goal

abbrev pub invariant-loop-t : goal.invariant-loop-t
invariant-loop-t l = record {
  counted : l.count + spec.modules_with l.core (drop l.t-index l.texts) ≡ 1 + spec.modules_with l.core l.texts;
  few : l.count ≤ 1 + l.t-index;
}
