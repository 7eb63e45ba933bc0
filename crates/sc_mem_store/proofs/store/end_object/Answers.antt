use Rattle.sc_mem_store.proofs.store.end_object.Goals as goal

pub give-requires : goal.give-requires
give-requires c = c.death.ensures.released c.args.object c.requires.0 c.in-Heap.is
