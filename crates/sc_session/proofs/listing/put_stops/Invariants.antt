use Rattle.std.proofs.Common.{◌≡◌, ◌++◌, drop}
use Rattle.sc_session.specs.Showing.{stop_lines}
use Rattle.sc_session.proofs.listing.put_stops.Given as goal

abbrev pub invariant-loop-s : goal.invariant-loop-s
invariant-loop-s l = l.text.items ++ stop_lines (drop l.s-index l.stops) ≡ l.fn.text.items ++ stop_lines l.stops
