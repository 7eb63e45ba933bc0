use Rattle.std.proofs.Common.{inl, refl, ◌∙◌}
use Rattle.sc_session.proofs.MixingLemmas.{goes_walks, over_there}
use Rattle.sc_session.proofs.session.Session.walk_mixed.Goals as goal

pub returns-in_default : goal.returns-in_default
returns-in_default c = inl refl

pub returns-in_default-going_stops : goal.returns-in_default-going_stops
returns-in_default-going_stops c = inl refl

pub returns-in-Some : goal.returns-in-Some
returns-in-Some c =
    goes_walks c.args.self.now c.take_mixed.new.self c.as_slice.result.now c.as_slice-in-Some.result.now c.args.walk c.in-Some.run' c.go_mixed.result c.go_mixed.new.self
    c.in-Some.ensures
    (c.as_slice.ensures ∙ c.in-Ok.ensures)
    (c.as_slice-in-Some.ensures ∙ c.in-Ok-going_stops.ensures)
    c.go_mixed.ensures

pub go_mixed-requires : goal.go_mixed-requires
go_mixed-requires c = over_there c.args.self.now c.take_mixed.new.self c.in-Some.run' c.in-Some.ensures
