use Rattle.std.proofs.Common.{◌≡◌, drop}
use Rattle.sc_session_show.specs.Visible as spec
use Rattle.sc_session_show.proofs.names.is_waiting.Given as goal

abbrev pub invariant-loop-other : goal.invariant-loop-other
invariant-loop-other l = spec.is_waiting (drop l.other-index l.waiting) l.id ≡ spec.is_waiting l.waiting l.id
