use Rattle.std.proofs.Common.{ap, inl, inr, refl, rules, ◌∙◌}
use Rattle.sc_session.proofs.GoingLemmas.{taken_out, taken_lost}
use Rattle.sc_session.proofs.session.Session.take_run.Goals as goal

pub returns-in_default : goal.returns-in_default
returns-in_default c = inl refl

pub returns-in_default-plan_heard : goal.returns-in_default-plan_heard
returns-in_default-plan_heard c = inl refl

pub returns-in-Ok-go_through : goal.returns-in-Ok-go_through
returns-in-Ok-go_through c =
    taken_out c.args.self.now _ c.replace.result c.replace.new.dest c.in-Ok.versions c.versions_from.result.now c.run_out_of-run.result c.go_through.new.run
    c.self.view_is (c.replace.ensures.value ∙ ap (λ p. p.state) c.self.view_is) c.replace.ensures.after c.in-Ok.ensures (search rules) c.run_out_of-run.ensures c.in-Ok-go_through.ensures

pub returns : goal.returns
returns c = inr (taken_lost c.args.self.now _ c.replace.new.dest c.self.view_is c.replace.ensures.after)
