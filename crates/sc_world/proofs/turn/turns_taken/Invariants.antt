-- What a go from here comes to, one from the beginning comes to; and what the program wrote was posted as far as the place that
-- is kept.
use Rattle.std.proofs.Common.{◌≡◌, ◌≤◌, ◌<◌, ◌+◌, ◌-◌, length}
use Rattle.sc_interp_world.specs.Outputs.{output}
use Rattle.sc_world.specs.Posts.{Posted}
use Rattle.sc_world.specs.Standing.{state_of}
use Rattle.sc_world.specs.Turns.{standing_at}
use Rattle.sc_world.proofs.Courses.{Onto}
use Rattle.sc_world.proofs.turn.turns_taken.Given as goal

abbrev pub invariant-turning : goal.invariant-turning
invariant-turning g l = record {
  onto : Onto l.want l.texts (standing_at (state_of l.fn.going l.fn.callers l.fn.world) l.fn.first l.fn.count) (standing_at (state_of l.going l.callers l.world) l.shown l.count);
  posted : l.fn.sent ≡ length (output l.fn.world.trail) → Posted (g.K.Sink.written l.fn.out) (g.K.Sink.written l.out) (length (output l.fn.world.trail)) l.sent (output l.world.trail);
  few : l.fn.sent ≡ length (output l.fn.world.trail) → length (output l.world.trail) < l.sent + 4096;
  later : g.K.Sink.faults l.fn.out ≤ g.K.Sink.faults l.out;
}

abbrev pub decreases-turning : goal.decreases-turning
decreases-turning g l = l.want.before + l.want.turns - l.count.turns
