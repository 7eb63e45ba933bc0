use Rattle.sc_session.proofs.EvaluatingLemmas.{kept_missed, makes_text}
use Rattle.sc_session.proofs.session.Session.evaluation.Goals as goal

pub returns : goal.returns
returns c = makes_text _ c.args.self.now c.as_slice.result.now c.in-Some.kept.now c.args.name.now c.args.line.now c.made_text.result c.self.view_is c.as_slice.ensures.value c.in-Some.ensures c.made_text.ensures

pub unreachable-requires : goal.unreachable-requires
unreachable-requires c = kept_missed _ c.args.self.now c.as_slice.result.now c.args.name.now c.self.view_is c.as_slice.ensures.value c.requires c.in-None.ensures
