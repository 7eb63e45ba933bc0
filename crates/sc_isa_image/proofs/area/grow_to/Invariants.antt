use Rattle.std.proofs.Common.{◌-◌}
use Rattle.std.specs.Prelude.{vec_len}
use Rattle.sc_isa_image.specs.Slots.{AreSlots}
use Rattle.sc_isa_image.proofs.area.grow_to.Given as goal

abbrev pub invariant-growing : goal.invariant-growing
invariant-growing l = AreSlots l.slots.items l.texts.texts

abbrev pub decreases-growing : goal.decreases-growing
decreases-growing l = l.end - vec_len l.slots
