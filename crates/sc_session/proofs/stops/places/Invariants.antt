use Rattle.std.proofs.Common.{◌≡◌, ◌++◌, drop}
use Rattle.sc_session.specs.Stopping.{places}
use Rattle.sc_session.proofs.stops.places.Given as goal

abbrev pub invariant-loop-s : goal.invariant-loop-s
invariant-loop-s l = l.places ++ places (drop l.s-index l.stops) ≡ places l.stops
