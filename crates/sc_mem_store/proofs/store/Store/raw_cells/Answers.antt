use Rattle.std.proofs.Common.{◌≡◌, length, subst}
use Rattle.std.specs.Prelude.{IfOk}
use Rattle.sc_mem_store.specs.Kept.{Kept}
use Rattle.sc_mem_store.specs.Living.{HasCells}
use Rattle.sc_mem_store.proofs.store.Store.raw_cells.Goals as goal

pub returns : goal.returns
returns c = subst (λ (k : Kept). IfOk c.cells_from.result (λ cells. (length cells ≡ c.args.n) × HasCells k.memory.flat c.args.from cells)) c.self.view_is c.cells_from.ensures
