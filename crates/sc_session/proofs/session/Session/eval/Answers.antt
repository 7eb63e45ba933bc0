use Rattle.std.proofs.Common.{List, subst, Err, ℕ}
use Rattle.sc_session.specs.Evaluating.{Asks, MakesText}
use Rattle.sc_session.proofs.EvaluatingLemmas.{eval_denied, evaluates_so}
use Rattle.sc_session.proofs.session.Session.eval.Goals as goal

pub returns-in-Ok-clause-evaluates : goal.returns-in-Ok-clause-evaluates
returns-in-Ok-clause-evaluates g c =
    evaluates_so (g.K.Sink.written c.args.out.now) (g.K.Sink.written c.evaluate.new.out) c.args.self.now c.in-Ok.text c.args.name c.args.line c.evaluate.result c.evaluate.new.self
    (subst (λ (l : List ℕ). Asks c.args.self.now c.args.name l c.in-Ok.text) c.as_slice.ensures c.in-Ok.ensures) c.evaluate.ensures.evaluates

pub returns-clause-evaluates : goal.returns-clause-evaluates
returns-clause-evaluates g c =
    eval_denied (g.K.Sink.written c.args.out.now) c.args.self.now c.args.name c.args.line c.in-Err.fault c.refused.result
    (subst (λ (l : List ℕ). MakesText c.args.self.now c.args.name l (Err c.in-Err.fault)) c.as_slice.ensures c.in-Err.ensures) c.refused.ensures
