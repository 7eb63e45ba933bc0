use Rattle.std.proofs.Common.{List, subst}
use Rattle.sc_base.specs.declared.memory.Cell.{Cell as Stored}
use Rattle.sc_interp_world.specs.Putting.{PutsAll}
use Rattle.sc_services.proofs.Writing.{stored_over}
use Rattle.sc_services.proofs.store.store_over_end.Goals as goal

pub returns : goal.returns
returns c =
    let p = c.args.place in
    let put = subst (λ (xs : List Stored). PutsAll c.args.at xs c.args.world.now c.put_cells.new.world) c.as_slice.ensures c.in_ok-put_cells.ensures in
    stored_over c.tell_stored.result c.args.at c.args.size p.id p.offset c.args.word c.in_ok-cells.cells c.args.world.now c.put_cells.new.world c.tell_stored.new.self c.requires.place c.in_ok-cells.ensures put c.tell_stored.ensures
