use Rattle.sc_session.proofs.MixingLemmas.{shows_mixed}
use Rattle.sc_session.proofs.session.Session.mixed_frames.Goals as goal

pub returns : goal.returns
returns c =
    shows_mixed c.args.self.now _ c.as_slice-past.result.now c.as_slice.result.now c.mixed_in-run.result.now c.world.result.now c.mixed_calls_told.result c.self.view_is
    c.as_slice-past.ensures.value c.as_slice.ensures.value c.mixed_in-run.ensures c.world.ensures c.mixed_calls_told.ensures
