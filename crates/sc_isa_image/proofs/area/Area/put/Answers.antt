use Rattle.std.proofs.Common.{sym, subst}
use Rattle.sc_isa_image.proofs.Renewed.{Agree, agree-put, same-slots}
use Rattle.sc_isa_image.proofs.area.Area.put.Goals as goal

pub grow-requires : goal.grow-requires
grow-requires c =
    let before = c.self.inside.texts.texts in
    let after = c.put.new.self.texts in
    let from = c.slot_of-from.result in
    same-slots c.self.inside.slots.items c.look_again.new.slots.items before after from c.len-count.result c.self.invariant c.look_again.ensures
    (subst (Agree before after from) (sym c.len-count.ensures) (agree-put before after c.args.t from c.slot_of-from.ensures c.put.ensures.texts))
