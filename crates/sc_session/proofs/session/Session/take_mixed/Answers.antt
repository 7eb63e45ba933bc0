use Rattle.std.proofs.Common.{ap, inl, inr, refl, rules, ◌∙◌}
use Rattle.sc_session.specs.Mixing.{is_mixed}
use Rattle.sc_session.proofs.MixingLemmas.{mixed_lost, mixed_out}
use Rattle.sc_session.proofs.session.Session.take_mixed.Goals as goal

pub returns-in_default : goal.returns-in_default
returns-in_default c = inl refl

pub returns-in_default-plan_heard : goal.returns-in_default-plan_heard
returns-in_default-plan_heard c = inl refl

pub returns-in-Ok-mixed_go_through : goal.returns-in-Ok-mixed_go_through
returns-in-Ok-mixed_go_through c =
    mixed_out c.args.self.now _ c.replace.result c.replace.new.dest c.in-Ok.versions c.versions_from.result.now c.mixed_out_of-run.result c.mixed_go_through.new.run
    c.self.view_is (c.replace.ensures.value ∙ ap (λ p. p.state) c.self.view_is) c.replace.ensures.after c.in-Ok.ensures (search rules) c.mixed_out_of-run.ensures c.in-Ok-mixed_go_through.ensures

pub returns : goal.returns
returns c = inr (mixed_lost c.args.self.now _ c.replace.new.dest c.self.view_is c.replace.ensures.after)

pub mixed_out_of-run-requires : goal.mixed_out_of-run-requires
mixed_out_of-run-requires c = ap is_mixed (c.replace.ensures.value ∙ ap (λ p. p.state) c.self.view_is) ∙ c.requires
