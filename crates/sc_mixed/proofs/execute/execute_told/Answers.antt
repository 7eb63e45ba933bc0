use Rattle.sc_mixed.proofs.Running.{one_alone}
use Rattle.sc_mixed.proofs.Telling.{instruction_told}
use Rattle.sc_mixed.proofs.execute.execute_told.Goals as goal

pub returns : goal.returns
returns c =
    instruction_told c.args.image.now c.args.regs.now c.execute_some-done.new.regs c.args.world.now c.hush.new.self c.execute_some-done.new.world c.hush-2.new.self c.tell.new.world c.execute_some-done.result.went
    c.hush.ensures
    (one_alone c.args.image.now c.args.regs.now c.execute_some-done.new.regs c.hush.new.self c.execute_some-done.new.world c.execute_some-done.result.count c.execute_some-done.result.went c.execute_some-done.ensures)
    c.hush-2.ensures c.tell.ensures
