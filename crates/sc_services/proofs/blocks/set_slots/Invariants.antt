use Rattle.std.proofs.Common.{◌≡◌, [], drop}
use Rattle.sc_services.specs.Blocks as spec
use Rattle.sc_services.proofs.blocks.set_slots.Given as goal

abbrev pub invariant-loop-slot : goal.invariant-loop-slot
invariant-loop-slot l = spec.slots_set (drop l.slot-index l.slots) l.rest l.ids l.world ≡ spec.slots_set l.slots l.vs [] l.fn.world
