use Rattle.std.proofs.Common.{ap, ◌∙◌}
use Rattle.sc_session.specs.Single.{single_state}
use Rattle.sc_session.proofs.SingleLemmas.{single_told}
use Rattle.sc_session.proofs.session.Session.go_one.Goals as goal

pub returns-in-Ok : goal.returns-in-Ok
returns-in-Ok c =
    single_told _ c.args.self.now c.catch_up.new.self c.put_state.new.place c.args.texts.now c.args.stops.now c.args.run c.in-Ok.told.run c.in-Ok.told.halt c.is_valued-valued.result c.in-Ok.told.text c.self.view_is
    (c.put_state.ensures ∙ c.single_state.ensures ∙ ap (single_state c.in-Ok.told.halt) c.mixed_heard_in.ensures) c.is_valued-valued.ensures c.in-Ok.ensures c.catch_up.ensures
