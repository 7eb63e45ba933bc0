use Rattle.std.proofs.Common.{◌∙◌}
use Rattle.sc_words.specs.declared.answer.Answer.TheVariants as answer
use Rattle.sc_session.specs.Showing.{TellsCalls}
use Rattle.sc_session.proofs.ShowLemmas.{shows, shows_there}
use Rattle.sc_session.proofs.session.Session.source_frames.Goals as goal

pub returns-in-Ok : goal.returns-in-Ok
returns-in-Ok c =
    shows (λ modules w. TellsCalls modules w c.calls_told.result) c.args.self.now _ c.as_slice.result.now c.as_slice-2.result.now c.as_slice-in-Ok.result.now c.run_in-run.result.now c.world-world.result.now
    c.self.view_is c.as_slice.ensures.value c.as_slice-2.ensures.value (c.as_slice-in-Ok.ensures ∙ c.in-Ok.ensures) c.run_in-run.ensures c.world-world.ensures c.calls_told.ensures

pub returns-in-Err : goal.returns-in-Err
returns-in-Err c =
    shows_there (λ modules w. TellsCalls modules w answer.NoMemory) c.args.self.now _ c.run_in-run.result.now c.world-world.result.now c.self.view_is c.run_in-run.ensures c.world-world.ensures tt
