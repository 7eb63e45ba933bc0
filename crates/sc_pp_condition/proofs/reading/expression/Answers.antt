use Rattle.std.proofs.Common.{◌∙◌}
use Rattle.sc_pp_condition.proofs.OneValue.{steps_at, refused_here, found_at_end, only_at_end, refused_at_end}
use Rattle.sc_pp_condition.proofs.reading.expression.Goals as goal

pub returns-in-Err-clause-syntax : goal.returns-in-Err-clause-syntax
returns-in-Err-clause-syntax c = refused_here c.args.terms.now c.loop-term.term-index _ _ c.in-Err.trouble _ c.loop-term-test.true c.loop-term.invariant c.in-Err.ensures

pub loop-term-preserved : goal.loop-term-preserved
loop-term-preserved c = steps_at c.args.terms.now c.loop-term.term-index _ _ c.loop-term-test.true c.loop-term.invariant ∙ c.in-Ok.ensures

pub returns-clause-found : goal.returns-clause-found
returns-clause-found c = found_at_end c.args.terms.now c.loop-term.term-index _ c.loop-term-test.false c.loop-term.invariant c.finish.result c.finish.ensures

pub returns-clause-only : goal.returns-clause-only
returns-clause-only c = only_at_end c.args.terms.now c.loop-term.term-index _ c.loop-term-test.false c.loop-term.invariant c.finish.result c.finish.ensures

pub returns-clause-syntax : goal.returns-clause-syntax
returns-clause-syntax c = refused_at_end c.args.terms.now c.loop-term.term-index _ c.loop-term-test.false c.loop-term.invariant c.finish.result c.finish.ensures
