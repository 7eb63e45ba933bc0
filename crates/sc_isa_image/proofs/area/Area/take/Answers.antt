use Rattle.std.proofs.Common.{sym, subst}
use Rattle.std.specs.Prelude.{IsTrue}
use Rattle.sc_isa_image.specs.Texts.{Table, place_of, starts_at, text_holding}
use Rattle.sc_isa_image.proofs.Renewed.{Agree, agree-take, same-slots}
use Rattle.sc_isa_image.proofs.area.Area.take.Goals as goal

pub invariant_of-self : goal.invariant_of-self
invariant_of-self c =
    let before = c.self.inside.texts.texts in
    let after = c.take.new.self.texts in
    let from = c.slot_of.result in
    let there = subst (λ (v : Table). IsTrue (starts_at c.args.start (place_of (text_holding v.texts c.args.start)))) (sym c.self.view_is) c.requires in
    same-slots c.self.inside.slots.items c.look_again.new.slots.items before after from c.words_at-count.result c.self.invariant c.look_again.ensures
    (subst (Agree before after from) (sym c.words_at-count.ensures.count) (agree-take before after c.args.start from c.words_at-count.ensures.ordered there c.slot_of.ensures c.take.ensures.texts))
