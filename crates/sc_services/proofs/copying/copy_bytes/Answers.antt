use Rattle.std.proofs.Common.{List, subst}
use Rattle.std.specs.Prelude.{IfOk}
use Rattle.sc_base.specs.declared.memory.Cell.{Cell as Stored}
use Rattle.sc_interp_world.specs.Putting.{PutsAll}
use Rattle.sc_services.proofs.Ways.{by_bytes}
use Rattle.sc_services.proofs.copying.copy_bytes.Goals as goal

pub returns : goal.returns
returns c =
    let put = subst (λ (xs : List Stored). IfOk c.put_cells.result (λ _. PutsAll c.args.to xs c.args.world.now c.put_cells.new.world)) c.as_slice.ensures c.put_cells.ensures in
    by_bytes c.put_cells.result c.args.to c.args.from c.args.n c.in_ok-cells.cells c.args.world.now c.put_cells.new.world c.in_ok-cells.ensures put
