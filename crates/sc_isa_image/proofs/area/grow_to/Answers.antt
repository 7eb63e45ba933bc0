use Rattle.std.proofs.Common.{◌≡◌, length, subst, rules, arith}
use Rattle.sc_isa_image.specs.Slots.{slot_address}
use Rattle.sc_isa_image.specs.Texts.{text_word}
use Rattle.sc_isa_image.proofs.Renewed.{slots-push}
use Rattle.sc_isa_image.proofs.area.grow_to.Goals as goal

pub growing-preserved : goal.growing-preserved
growing-preserved c =
    let slots = c.growing.slots.items in
    let texts = c.args.texts.now.texts in
    let count : c.len-in-growing.result ≡ length slots = search rules in
    rw c.in-Ok.ensures.items (slots-push slots texts c.decoded_at-slot.result c.growing.invariant (omega arith) (subst (λ n. c.decoded_at-slot.result ≡ text_word texts (slot_address n)) count c.decoded_at-slot.ensures))
