use Rattle.sc_session.proofs.ShowLemmas.{shows_none, shows_nothing, shows_value}
use Rattle.sc_session.proofs.session.Session.source_value.Goals as goal

pub returns-in-None : goal.returns-in-None
returns-in-None c =
    shows_none c.args.self.now _ c.declaring-declaring.result c.run_in-run.result.now c.world-world.result.now c.args.name c.as_slice.result.now c.as_slice-2.result.now
    c.self.view_is c.run_in-run.ensures c.world-world.ensures c.declaring-declaring.ensures c.as_slice.ensures.value c.as_slice-2.ensures.value c.in-None.ensures

pub returns-in-Ok : goal.returns-in-Ok
returns-in-Ok c =
    shows_value c.args.self.now _ c.declaring-declaring.result c.run_in-run.result.now c.world-world.result.now c.args.name c.value_told.result
    c.self.view_is c.run_in-run.ensures c.world-world.ensures c.declaring-declaring.ensures
    c.as_slice.result.now c.as_slice-2.result.now c.in-Ok.sight c.in-Some.scopes.now c.as_slice.ensures.value c.as_slice-2.ensures.value c.in-Ok.ensures c.in-Some.ensures c.value_told.ensures

pub returns : goal.returns
returns c =
    shows_nothing c.args.self.now _ c.declaring-declaring.result c.run_in-run.result.now c.world-world.result.now c.args.name c.self.view_is c.run_in-run.ensures c.world-world.ensures c.declaring-declaring.ensures
