use Rattle.std.proofs.Common.{subst, sym}
use Rattle.sc_mixed.specs.Machine.{called_state}
use Rattle.sc_mixed.specs.Parts.{CallGoes}
use Rattle.sc_mixed.proofs.Serving.{called_ends, called_so}
use Rattle.sc_mixed.proofs.serve.call_key.Goals as goal

pub returns-in-Ok-moved_by : goal.returns-in-Ok-moved_by
returns-in-Ok-moved_by c =
    subst (λ n. CallGoes (called_state c.args.texts.now c.args.key c.args.vs.now c.args.calls.now.callers c.args.world.now) c.args.calls.now.callers c.args.world.now c.in-Ok-moved_by.moved n c.key_called.new.world) (sym c.replace.ensures.after)
    (called_so c.args.texts.now c.args.key c.args.vs.now c.args.calls.now.callers c.args.world.now c.key_called.new.world c.in-Ok.going c.key_called.result c.moved_by.result c.in-Ok-moved_by.moved
    c.key_called.ensures c.in-Ok.is c.in-Ok-moved_by.is (λ s at. c.moved_by.ensures s c.args.calls.now.callers c.args.world.now c.work_done-work.ensures c.moved-moved.ensures at))

pub returns-in-Err : goal.returns-in-Err
returns-in-Err c =
    called_ends c.args.texts.now c.args.key c.args.vs.now c.args.calls.now.callers c.args.world.now c.key_called.new.world c.key_called.result c.in-Err.stop c.key_called.ensures c.in-Err.is
