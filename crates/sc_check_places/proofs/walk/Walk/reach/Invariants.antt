use Rattle.std.proofs.Common.{◌≡◌}
use Rattle.sc_check_places.specs.Places.{reach}
use Rattle.sc_check_places.proofs.walk.Walk.reach.Given as goal

abbrev pub invariant-inward : goal.invariant-inward
invariant-inward l = reach l.left l.structs l.string l.self.levels l.line ≡ reach l.depth l.structs l.string l.fn.self.levels l.line

abbrev pub decreases-inward : goal.decreases-inward
decreases-inward l = l.left
