use Rattle.std.proofs.Common.{◌++◌, ◌/◌, length}
use Rattle.sc_elf_read.specs.Tables.{rows, reloc_in}
use Rattle.sc_elf_read.proofs.Loops.{rows_step}
use Rattle.sc_elf_read.proofs.tables.push_rows.Goals as goal

pub loop-turn-preserved : goal.loop-turn-preserved
loop-turn-preserved c =
    let count = length c.args.bytes.now / 12 in
    rows_step (reloc_in c.args.section) 12 count c.loop-turn.turn c.loop-turn.all c.push.new.self
    c.loop-turn.rest.now c.behind-rest.result.now c.reloc_in.result (c.args.all.now ++ rows (reloc_in c.args.section) 12 count c.args.bytes.now)
    c.loop-turn.invariant c.loop-turn-test.true c.reloc_in.ensures c.behind-rest.ensures c.in_ok-push.ensures.ok
