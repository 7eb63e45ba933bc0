use denote.Text.{Utf8}
use denote.Shadow.{shadow}
use Rattle.sc_test_expr.proofs.tests.showing.+tree.Given as goal

abbrev pub invariant-after_arguments-loop-arg : goal.invariant-after_arguments-loop-arg
invariant-after_arguments-loop-arg l = shadow (Utf8 l.left)
