use Rattle.std.proofs.Common.{ap, length, subst, ◌∙◌}
use Rattle.sc_session.specs.Changing.{stays}
use Rattle.sc_session.specs.Loading.{Takes, with_module}
use Rattle.sc_session.specs.Plain.{Plain}
use Rattle.sc_session.specs.Transcript.{Closes}
use Rattle.sc_session.proofs.TakenLemmas.{closed}
use Rattle.sc_session.proofs.session.Session.add.Goals as goal

pub returns-in-Ok-keep : goal.returns-in-Ok-keep
returns-in-Ok-keep c =
    closed c.args.self.now c.stays-stayed.result c.as_slice-versions.result.now c.in-Ok-keep.back c.kept_count-before.result c.len-numbers.result c.args.loaded c.args.new with_module c.conclude.new.self
    c.in-Ok-keep.ensures.0 (c.stays-stayed.ensures ∙ ap (λ p. stays p.state) c.self.view_is) (c.as_slice-versions.ensures ∙ c.in-Ok.ensures)
    (c.kept_count-before.ensures ∙ ap (λ p. length p.past) c.self.view_is) (c.len-numbers.ensures ∙ ap (λ p. length p.numbers) c.self.view_is)
    c.keep.new.self c.take_new-taken.result c.conclude.result c.take_new-taken.new.modules.items c.take_new-taken.new.numbers c.in-Ok-keep.ensures.1
    (subst (λ (p : Plain). Takes c.as_slice-versions.result.now p.modules p.numbers c.args.new (with_module p.modules c.args.new) c.take_new-taken.result c.take_new-taken.new.modules.items c.take_new-taken.new.numbers) c.self-in-Ok-keep.view_is
    c.take_new-taken.ensures)
    (subst (λ (p : Plain). Closes (record p { modules = c.take_new-taken.new.modules.items; numbers = c.take_new-taken.new.numbers }) c.in-Ok-keep.back c.kept_count-before.result c.len-numbers.result c.stays-stayed.result c.args.loaded
    c.take_new-taken.result c.conclude.result c.conclude.new.self) c.self-in-Ok-keep.view_is c.conclude.ensures)
