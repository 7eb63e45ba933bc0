use Rattle.std.proofs.Common.{◌≡◌, [], drop}
use Rattle.sc_services.specs.Blocks as spec
use Rattle.sc_services.proofs.blocks.born_slots.Given as goal

abbrev pub invariant-loop-slot : goal.invariant-loop-slot
invariant-loop-slot l = spec.slots_born (drop l.slot-index l.slots) l.ids l.world ≡ spec.slots_born l.slots [] l.fn.world
