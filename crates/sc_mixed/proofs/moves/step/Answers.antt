use Rattle.sc_mixed.proofs.Stepping.{step_ends, step_goes}
use Rattle.sc_mixed.proofs.moves.step.Goals as goal

pub returns-in-Ok-stepped : goal.returns-in-Ok-stepped
returns-in-Ok-stepped c =
    step_goes c.args.texts.now c.args.going.now c.args.calls.now c.args.world.now c.step_run.result c.step_run.new.going c.step_run.new.callers c.step_run.new.world c.step_run.ensures
    c.in-Ok.shown c.noted-before.result c.stepped.result c.in-Ok-stepped.moved c.in-Ok.is c.in-Ok-stepped.is (c.noted-before.ensures c.args.calls.now.callers) c.stepped.ensures

pub returns-in-Err : goal.returns-in-Err
returns-in-Err c =
    step_ends c.args.texts.now c.args.going.now c.args.calls.now c.args.world.now c.step_run.result c.step_run.new.going c.step_run.new.callers c.step_run.new.world c.step_run.ensures
    c.in-Err.stop c.in-Err.is
