use Rattle.sc_mem_store.proofs.Holding.{holds_none}
use Rattle.sc_mem_store.proofs.store.Store.new.Goals as goal

pub invariant_of-result : goal.invariant_of-result
invariant_of-result c = rw (c.new-2.ensures, c.in_ok-memory.ensures.flat) (holds_none c.args.stack c.args.heap c.args.functions)
