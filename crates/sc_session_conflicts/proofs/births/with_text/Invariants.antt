use Rattle.std.proofs.Common.{◌≡◌, ◌++◌, drop}
use Rattle.sc_session_conflicts.specs.Births as spec
use Rattle.sc_session_conflicts.proofs.births.with_text.Given as goal

abbrev pub invariant-loop-t : goal.invariant-loop-t
invariant-loop-t l = l.texts ++ spec.with_text l.new (drop l.t-index l.present) ≡ spec.with_text l.new l.present
