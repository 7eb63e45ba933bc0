use Rattle.std.proofs.Common.{◌≡◌, ◌++◌, take}
use Rattle.sc_mem_store.proofs.store.Store.number.Given as goal

abbrev pub invariant-loop-key : goal.invariant-loop-key
invariant-loop-key l = l.self ≡ record l.fn.self { functions = l.fn.self.functions ++ take l.key-index l.more }
