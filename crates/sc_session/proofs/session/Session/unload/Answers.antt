use Rattle.std.proofs.Common.{ap, length, refl, subst, ◌∙◌}
use Rattle.sc_session.specs.Changing.{stays}
use Rattle.sc_session.specs.Loading.{without}
use Rattle.sc_session.specs.Mixing.{Settles, Unsettled, returned}
use Rattle.sc_session.specs.Plain.{Plain}
use Rattle.sc_session.proofs.TakenLemmas.{modules_back, modules_changed}
use Rattle.sc_session.proofs.session.Session.unload.Goals as goal

pub returns-in-Ok-finish : goal.returns-in-Ok-finish
returns-in-Ok-finish c = (
  refl,
  modules_changed c.args.self.now c.keep.new.self c.finish.new.self c.stays-stayed.result (without c.args.name) c.take_away.new.modules.items c.in-Ok.ensures.1
      (c.stays-stayed.ensures ∙ ap (λ p. stays p.state) c.self.view_is) (c.take_away.ensures ∙ ap (λ (p : Plain). without c.args.name p.modules) c.self-in-Ok.view_is)
      (subst (λ (p : Plain). Settles c.stays-stayed.result (record p { modules = c.take_away.new.modules.items }) c.finish.new.self) c.self-in-Ok.view_is c.in-Ok-finish.ensures),
)

pub returns-in-Err-finish : goal.returns-in-Err-finish
returns-in-Err-finish c =
    modules_back c.args.self.now c.keep.new.self c.finish.new.self c.stays-stayed.result c.in-Ok.back c.take_away.new.modules.items c.kept_count-before.result c.len-numbers.result c.in-Err-finish.field-0 c.in-Ok.ensures.0 c.in-Ok.ensures.1
    (c.kept_count-before.ensures ∙ ap (λ p. length p.past) c.self.view_is) (c.len-numbers.ensures ∙ ap (λ p. length p.numbers) c.self.view_is)
    (subst (λ (p : Plain). Unsettled c.stays-stayed.result (record p { modules = c.take_away.new.modules.items }) c.in-Err-finish.field-0) c.self-in-Ok.view_is c.in-Err-finish.ensures.0)
    (c.in-Err-finish.ensures.1 ∙ ap (λ (p : Plain). returned c.in-Ok.back c.kept_count-before.result c.len-numbers.result (record p { modules = c.take_away.new.modules.items })) c.self-in-Ok.view_is)
