use Rattle.std.proofs.Common.{◌≡◌, ◌++◌, false, length}
use Rattle.sc_macro.specs.Marks.{without_lines}
use Rattle.sc_macro.proofs.walk.marked.Given as goal

abbrev pub invariant-marking : goal.invariant-marking
invariant-marking l = l.out ++ without_lines l.space l.tokens ≡ without_lines false l.fn.tokens

abbrev pub decreases-marking : goal.decreases-marking
decreases-marking l = length l.tokens
