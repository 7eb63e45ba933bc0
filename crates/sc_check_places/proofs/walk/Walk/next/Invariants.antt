use Rattle.std.proofs.Common.{◌≡◌, length}
use Rattle.sc_check_places.specs.Places.{next}
use Rattle.sc_check_places.proofs.walk.Walk.next.Given as goal

abbrev pub invariant-loop-level : goal.invariant-loop-level
invariant-loop-level l = next l.structs l.self.levels l.line ≡ next l.structs l.fn.self.levels l.line

abbrev pub decreases-loop-level : goal.decreases-loop-level
decreases-loop-level l = length l.self.levels
