use Rattle.sc_mixed.proofs.Telling.{ran_kept}
use Rattle.sc_mixed.proofs.execute.execute_counted.Goals as goal

pub returns : goal.returns
returns c =
    ran_kept c.args.image.now c.args.most c.args.regs.now c.args.world.now c.in_ok-done.done.count c.in_ok-done.done.went c.execute_either.new.regs c.execute_either.new.world c.executed.new.self
    c.in_ok-done.ensures c.executed.ensures
