use Rattle.std.proofs.Common.{◌<◌, ◌∙◌, length, drop, sym, arith}
use Rattle.sc_services.proofs.Slots.{slots_end}
use Rattle.sc_services.proofs.blocks.set_slots.Goals as goal

pub returns-in_default : goal.returns-in_default
returns-in_default c =
    let l = c.loop-slot in
    let short : length l.rest.now < 1 = omega (arith, c.in_default.len_below) in
    sym l.invariant ∙ slots_end (drop l.slot-index c.args.slots.now) l.rest.now l.ids l.world short
