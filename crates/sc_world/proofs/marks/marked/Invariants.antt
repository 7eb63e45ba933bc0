-- The places so far are those of the stops so far.
use Rattle.std.specs.Prelude.{take}
use Rattle.sc_world.specs.Marks as spec
use Rattle.sc_world.proofs.marks.marked.Given as goal

abbrev pub invariant-loop-stop : goal.invariant-loop-stop
invariant-loop-stop l = spec.Finds l.places (take l.stop-index l.fn.stops)
