use Rattle.std.proofs.Common.{◌≡◌, ◌++◌, drop}
use Rattle.sc_session_show.specs.References as spec
use Rattle.sc_session_show.proofs.references.put_found.Given as goal

abbrev pub invariant-loop-p : goal.invariant-loop-p
invariant-loop-p l = (l.found ++ spec.found_in l.name l.home (drop l.p-index l.places)) ≡ (l.fn.found ++ spec.found_in l.name l.home l.places)
