use Rattle.sc_compiled_expressions.proofs.Straight.{load_means, over_means, skip_means, straight_means}
use Rattle.sc_compiled_expressions.proofs.paths.code_means_what_comes_behind_it.Goals as goal

pub returns-clause-straight : goal.returns-clause-straight
returns-clause-straight c = straight_means

pub returns-clause-load : goal.returns-clause-load
returns-clause-load c = load_means

pub returns-clause-skip : goal.returns-clause-skip
returns-clause-skip c = skip_means

pub returns-clause-over : goal.returns-clause-over
returns-clause-over c = over_means
