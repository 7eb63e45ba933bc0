use Rattle.sc_test_rules.proofs.typing.show.+show.Given as goal

abbrev pub decreases-show : goal.decreases-show
decreases-show l = l.depth
