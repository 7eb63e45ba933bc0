use Rattle.sc_isa_image.specs.Slots.{IsRenewedTo}
use Rattle.sc_isa_image.proofs.area.renew.Given as goal

abbrev pub invariant-renewing : goal.invariant-renewing
invariant-renewing l = IsRenewedTo l.initial.slots.items l.slots.items l.texts.texts l.from l.i
