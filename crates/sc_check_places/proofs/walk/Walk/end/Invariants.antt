use Rattle.std.proofs.Common.{◌≡◌, ◌++◌, length}
use Rattle.sc_check_places.specs.Places.{zeros_at_end, count_at_end, around}
use Rattle.sc_check_places.proofs.walk.Walk.end.Given as goal

abbrev pub invariant-loop-level : goal.invariant-loop-level
invariant-loop-level l = record {
  zeros : (l.zeros ++ zeros_at_end l.structs l.self.levels) ≡ zeros_at_end l.structs l.fn.self.levels;
  count : count_at_end l.self.levels ≡ count_at_end l.fn.self.levels;
  around : around l.self.levels ≡ around l.fn.self.levels;
}

abbrev pub decreases-loop-level : goal.decreases-loop-level
decreases-loop-level l = length l.self.levels
