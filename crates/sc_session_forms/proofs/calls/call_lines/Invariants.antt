use Rattle.std.proofs.Common.{◌≡◌, ◌++◌, reverse, length}
use Rattle.sc_session_forms.specs.Calls as spec
use Rattle.sc_session_forms.proofs.calls.call_lines.Given as goal

-- what is said so far, and what the calls that are left say
abbrev pub invariant-loop-f : goal.invariant-loop-f
invariant-loop-f l = (l.text.items ++ spec.call_lines l.held l.compiled (reverse l.outer)) ≡ spec.call_lines l.held l.compiled l.world.frames

abbrev pub decreases-loop-f : goal.decreases-loop-f
decreases-loop-f l = length l.outer
