use Rattle.sc_session.proofs.MixingLemmas.{shows_mixed_value}
use Rattle.sc_session.proofs.session.Session.mixed_value_in.Goals as goal

pub returns : goal.returns
returns c =
    shows_mixed_value c.args.self.now _ c.args.sight.now c.as_slice.result.now c.as_slice-2.result.now c.mixed_in-run.result.now c.world.result.now c.declaring.result c.args.name c.mixed_value_told.result
    c.self.view_is c.requires.sight c.as_slice.ensures.value c.as_slice-2.ensures.value c.mixed_in-run.ensures c.world.ensures c.declaring.ensures c.mixed_value_told.ensures
