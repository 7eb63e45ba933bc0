-- What the rest gives from here is what all give from the beginning.
use Rattle.std.proofs.Common.{◌≡◌, length}
use Rattle.sc_check.specs.Units.{with_objects}
use Rattle.sc_check.proofs.unit.add_objects.Given as goal

abbrev pub invariant-loop-given : goal.invariant-loop-given
invariant-loop-given l = with_objects l.declared l.m ≡ with_objects l.declared l.fn.m

abbrev pub decreases-loop-given : goal.decreases-loop-given
decreases-loop-given l = length l.m.contents
