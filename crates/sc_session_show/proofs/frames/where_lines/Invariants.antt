use Rattle.std.proofs.Common.{◌≡◌, ◌++◌, reverse, length}
use Rattle.sc_session_show.specs.Frames as spec
use Rattle.sc_session_show.proofs.frames.where_lines.Given as goal

-- what is said so far, and what the calls that are left say
abbrev pub invariant-loop-f : goal.invariant-loop-f
invariant-loop-f l = (l.text.items ++ spec.where_lines l.held (reverse l.outer)) ≡ spec.where_lines l.held l.world.frames

abbrev pub decreases-loop-f : goal.decreases-loop-f
decreases-loop-f l = length l.outer
