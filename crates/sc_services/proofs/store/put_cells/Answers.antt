use Rattle.std.proofs.Common.{arith}
use Rattle.sc_services.proofs.Writing.{puts_turn}
use Rattle.sc_services.proofs.store.put_cells.Goals as goal

pub loop-cell-preserved : goal.loop-cell-preserved
loop-cell-preserved c =
    let l = c.loop-cell in
    let place = l.invariant.1 in
    let further = c.in-Some.ensures.1 in
    (puts_turn c.args.to l.at l.cell-index c.args.cells.now _ c.args.world.now l.world c.put_raw.new.self l.invariant.0 place c.loop-cell-test.true c.in_ok-put_raw.ensures, omega (arith, place, further))
