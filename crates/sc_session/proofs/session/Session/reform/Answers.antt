use Rattle.std.proofs.Common.{ap, length, subst, sym, ◌∙◌}
use Rattle.sc_session.specs.Changing.{stays}
use Rattle.sc_session.specs.Linking.{with_form}
use Rattle.sc_session.specs.Mixing.{Settles, Unsettled, returned}
use Rattle.sc_session.specs.Plain.{Plain}
use Rattle.sc_session.proofs.SwappingLemmas.{forms_failed, forms_swapped}
use Rattle.sc_session.proofs.TakenLemmas.{modules_back, modules_changed, modules_unlinked, stays_by}
use Rattle.sc_session.proofs.session.Session.reform.Goals as goal

pub returns-in-Ok-finish : goal.returns-in-Ok-finish
returns-in-Ok-finish c =
    forms_swapped c.args.self.now c.args.name c.args.form c.args.choice c.swapped.result c.finish.new.self c.swapped.ensures
    (modules_changed c.args.self.now c.keep.new.self c.finish.new.self c.stays-stayed.result (with_form c.args.name c.args.form c.args.choice) c.put_form.new.modules.items c.in-Ok.ensures.1
    (c.stays-stayed.ensures ∙ ap (λ p. stays p.state) c.self.view_is) (c.put_form.ensures ∙ ap (λ (p : Plain). with_form c.args.name c.args.form c.args.choice p.modules) c.self-in-Ok.view_is)
    (subst (λ (p : Plain). Settles c.stays-stayed.result (record p { modules = c.put_form.new.modules.items }) c.finish.new.self) c.self-in-Ok.view_is c.in-Ok-finish.ensures))

pub returns-in-Err-finish : goal.returns-in-Err-finish
returns-in-Err-finish c =
    forms_failed c.args.self.now c.args.name c.args.form c.args.choice c.in-Err-finish.fault c.unformed.result c.finish.new.self
    (sym (c.stays-stayed.ensures ∙ ap (λ p. stays p.state) c.self.view_is) ∙ stays_by c.stays-stayed.result _ c.in-Err-finish.fault c.in-Err-finish.ensures.0)
    (modules_unlinked c.args.self.now c.keep.new.self c.stays-stayed.result (with_form c.args.name c.args.form c.args.choice) c.put_form.new.modules.items c.in-Err-finish.fault c.in-Ok.ensures.1
    (c.stays-stayed.ensures ∙ ap (λ p. stays p.state) c.self.view_is) (c.put_form.ensures ∙ ap (λ (p : Plain). with_form c.args.name c.args.form c.args.choice p.modules) c.self-in-Ok.view_is)
    (subst (λ (p : Plain). Unsettled c.stays-stayed.result (record p { modules = c.put_form.new.modules.items }) c.in-Err-finish.fault) c.self-in-Ok.view_is c.in-Err-finish.ensures.0))
    c.unformed.ensures
    (modules_back c.args.self.now c.keep.new.self c.finish.new.self c.stays-stayed.result c.in-Ok.back c.put_form.new.modules.items c.kept_count-before.result c.len-numbers.result c.in-Err-finish.fault c.in-Ok.ensures.0 c.in-Ok.ensures.1
    (c.kept_count-before.ensures ∙ ap (λ p. length p.past) c.self.view_is) (c.len-numbers.ensures ∙ ap (λ p. length p.numbers) c.self.view_is)
    (subst (λ (p : Plain). Unsettled c.stays-stayed.result (record p { modules = c.put_form.new.modules.items }) c.in-Err-finish.fault) c.self-in-Ok.view_is c.in-Err-finish.ensures.0)
    (c.in-Err-finish.ensures.1 ∙ ap (λ (p : Plain). returned c.in-Ok.back c.kept_count-before.result c.len-numbers.result (record p { modules = c.put_form.new.modules.items })) c.self-in-Ok.view_is))
