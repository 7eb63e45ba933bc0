use Rattle.sc_elf_read.specs.Tables.{rows, slot_in}
use Rattle.sc_elf_read.proofs.Loops.{rows_step}
use Rattle.sc_elf_read.proofs.saber.slots.Goals as goal

pub loop-turn-preserved : goal.loop-turn-preserved
loop-turn-preserved c =
    rows_step slot_in 12 c.args.count c.loop-turn.turn c.loop-turn.all c.push.new.self
    c.loop-turn.rest.now c.behind-rest.result.now c.slot_in.result (rows slot_in 12 c.args.count c.args.bytes.now)
    c.loop-turn.invariant c.loop-turn-test.true c.slot_in.ensures c.behind-rest.ensures c.in_ok-push.ensures.ok
