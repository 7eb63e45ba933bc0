-- What is still to be noted, behind what is noted.
use Rattle.std.proofs.Common.{◌≡◌, ◌++◌}
use Rattle.sc_check_body.specs.Progress.{literals}
use Rattle.sc_check_body.proofs.progress.note_from.Given as goal

abbrev pub invariant-loop-at : goal.invariant-loop-at
invariant-loop-at l = l.noted ++ literals l.at l.to ≡ l.fn.noted ++ literals l.from l.to
