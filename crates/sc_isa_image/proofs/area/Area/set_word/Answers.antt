use Rattle.sc_isa_image.proofs.Renewed.{agree-set, same-slots}
use Rattle.sc_isa_image.proofs.area.Area.set_word.Goals as goal

pub invariant_of-self : goal.invariant_of-self
invariant_of-self c =
    let before = c.self.inside.texts.texts in
    let after = c.set_word.new.self.texts in
    let from = c.slot_of.result in
    same-slots c.self.inside.slots.items c.look_again.new.slots.items before after from 1 c.self.invariant c.look_again.ensures
    (agree-set before after c.args.pc c.args.word from c.slot_of.ensures c.set_word.ensures.words)
