use Rattle.std.proofs.Common.{◌∙◌, ap}
use Rattle.sc_elf_read.specs.Tables.{symbol_in, symbols_in}
use Rattle.sc_elf_read.proofs.Loops.{symbols_step}
use Rattle.sc_elf_read.proofs.tables.symbols_in.Goals as goal

pub loop-turn-preserved : goal.loop-turn-preserved
loop-turn-preserved c =
    symbols_step c.args.count c.loop-turn.turn c.loop-turn.all c.push.new.self
    c.loop-turn.rest.now c.loop-turn.names_left.now c.behind-rest.result.now c.behind_text-names_left.result.now
    c.in_ok-symbol_in.field-0 (symbols_in c.args.count c.args.bytes.now c.args.names.now)
    c.loop-turn.invariant c.loop-turn-test.true (c.in_ok-symbol_in.ensures ∙ ap (symbol_in c.loop-turn.rest.now) c.text.ensures)
    c.behind-rest.ensures c.behind_text-names_left.ensures c.in_ok-push.ensures.ok
