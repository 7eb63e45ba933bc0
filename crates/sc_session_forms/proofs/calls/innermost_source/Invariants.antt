use Rattle.std.proofs.Common.{◌≡◌, reverse, length}
use Rattle.sc_session_forms.specs.Calls as spec
use Rattle.sc_session_forms.proofs.calls.innermost_source.Given as goal

abbrev pub invariant-loop-f : goal.invariant-loop-f
invariant-loop-f l = spec.source_calls (reverse l.outer) ≡ spec.source_calls l.world.frames

abbrev pub decreases-loop-f : goal.decreases-loop-f
decreases-loop-f l = length l.outer
