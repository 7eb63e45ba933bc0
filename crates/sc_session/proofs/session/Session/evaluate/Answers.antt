use Rattle.std.proofs.Common.{true, false, ◌∙◌}
use Rattle.sc_session.proofs.EvaluatingLemmas.{form_by, runs_mixed, runs_not, runs_source}
use Rattle.sc_session.proofs.session.Session.evaluate.Goals as goal

pub returns-in_default-clause-evaluates : goal.returns-in_default-clause-evaluates
returns-in_default-clause-evaluates g c = runs_not (g.K.Sink.written c.args.out.now) c.args.self.now c.args.text c.args.name.now

pub returns-in_default-texts_of-clause-evaluates : goal.returns-in_default-texts_of-clause-evaluates
returns-in_default-texts_of-clause-evaluates g c = runs_not (g.K.Sink.written c.args.out.now) c.args.self.now c.args.text c.args.name.now

pub returns-then-are_sources-clause-evaluates : goal.returns-then-are_sources-clause-evaluates
returns-then-are_sources-clause-evaluates g c =
    runs_source (g.K.Sink.written c.args.out.now) (g.K.Sink.written c.start.new.out) c.args.self.now c.args.text c.args.name.now c.put_evaluation.new.self c.in-Ok.key c.new-input.result c.start.result c.start.new.self
    c.put_evaluation.ensures c.in-Ok.ensures c.new-input.ensures
    (form_by c.are_sources.result true c.as_slice-2.result.now c.as_slice.result.now _ c.args.self.now c.self.view_is c.as_slice.ensures.value (c.as_slice-2.ensures ∙ c.in-Ok-texts_of.ensures) c.are_sources.ensures c.if-are_sources.true)
    c.start.ensures.begins

pub returns-clause-evaluates : goal.returns-clause-evaluates
returns-clause-evaluates g c =
    runs_mixed (g.K.Sink.written c.args.out.now) c.args.self.now c.args.text c.args.name.now c.put_evaluation.new.self c.in-Ok.key c.new-input.result c.start_mixed.result c.start_mixed.new.self
    c.put_evaluation.ensures c.in-Ok.ensures c.new-input.ensures
    (form_by c.are_sources.result false c.as_slice-2.result.now c.as_slice.result.now _ c.args.self.now c.self.view_is c.as_slice.ensures.value (c.as_slice-2.ensures ∙ c.in-Ok-texts_of.ensures) c.are_sources.ensures c.if-are_sources.false)
    c.start_mixed.ensures
