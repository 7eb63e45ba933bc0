use Rattle.sc_world.specs.Standing.{state_of}
use Rattle.sc_world.proofs.Exits.{onward_on, onward_last}
use Rattle.sc_world.proofs.turn.onward.Goals as goal

pub returns-in-Ok : goal.returns-in-Ok
returns-in-Ok c = λ x.
    onward_on c.args.texts.now c.args.going.now c.args.callers.now c.args.world.now c.step_run.result c.in-Ok.shown
    c.step_run.new.going c.step_run.new.callers c.step_run.new.world x c.args.count.now c.went_on.new.count c.went_on.result c.step_run.ensures c.in-Ok.is
    (c.went_on.ensures (state_of c.args.going.now c.args.callers.now c.args.world.now) x c.step_run.new.callers (c.noted-before.ensures c.args.callers.now))

pub returns-in-Err : goal.returns-in-Err
returns-in-Err c = λ x.
    onward_last c.args.texts.now c.args.going.now c.args.callers.now c.args.world.now c.step_run.result c.in-Err.stop c.ended.result
    c.step_run.new.going c.step_run.new.callers c.step_run.new.world x c.args.count.now c.ended.new.count c.step_run.ensures c.in-Err.is c.ended.ensures.same
    (λ e over. c.ended.ensures.counted (state_of c.args.going.now c.args.callers.now c.args.world.now) x e (c.noted-before.ensures c.args.callers.now) over)
