use Rattle.std.proofs.Common.{inl, refl, ◌∙◌}
use Rattle.sc_session.proofs.MixingLemmas.{over_there}
use Rattle.sc_session.proofs.SingleLemmas.{single_carries}
use Rattle.sc_session.proofs.session.Session.step_one.Goals as goal

pub returns-in_default : goal.returns-in_default
returns-in_default c = inl refl

pub returns-in_default-going_stops : goal.returns-in_default-going_stops
returns-in_default-going_stops c = inl refl

pub returns-in-Some : goal.returns-in-Some
returns-in-Some c =
    single_carries c.args.self.now c.take_mixed.new.self c.as_slice.result.now c.as_slice-in-Some.result.now c.in-Some.run' c.go_one.result c.go_one.new.self
    c.in-Some.ensures
    (c.as_slice.ensures ∙ c.in-Ok.ensures)
    (c.as_slice-in-Some.ensures ∙ c.in-Ok-going_stops.ensures)
    c.go_one.ensures

pub go_one-requires : goal.go_one-requires
go_one-requires c = over_there c.args.self.now c.take_mixed.new.self c.in-Some.run' c.in-Some.ensures
