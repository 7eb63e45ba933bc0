use Rattle.sc_mixed.proofs.Running.{went_last}
use Rattle.sc_mixed.proofs.execute.execute_heard.Goals as goal

pub returns-in_default : goal.returns-in_default
returns-in_default c =
    went_last c.args.image.now c.args.most c.loop-k.k c.args.regs.now c.loop-k.regs c.execute_told.new.regs c.args.world.now c.loop-k.world c.execute_told.new.world c.in_ok-went.went c.loop-k-test.true c.loop-k.invariant c.in_ok-went.ensures
