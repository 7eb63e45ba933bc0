use Rattle.sc_mem_store.proofs.Living.{bare_none}
use Rattle.sc_mem_store.proofs.machine.place_at.Goals as goal

pub returns-in-None-clause-place : goal.returns-in-None-clause-place
returns-in-None-clause-place c = bare_none c.args.memory.now.flat.objects c.args.address c.in-None.ensures.object
