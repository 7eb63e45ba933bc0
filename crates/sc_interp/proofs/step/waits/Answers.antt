use Rattle.sc_interp.proofs.Runs.{waits}
use Rattle.sc_interp.proofs.step.waits.Goals as goal

pub returns-in-Ok : goal.returns-in-Ok
returns-in-Ok c = λ s sent.
    waits c.args.items c.args.user c.args.stmts c.args.env c.args.active c.args.callers.now c.args.world.now c.in-Ok.call.of c.in-Ok.call.callee c.in-Ok.call.arguments c.call_out.new.slots c.in-Ok.ensures s sent
