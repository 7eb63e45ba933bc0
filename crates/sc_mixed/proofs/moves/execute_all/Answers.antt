use Rattle.sc_mixed.proofs.Running.{executes_upto, no_room_upto}
use Rattle.sc_mixed.proofs.Telling.{executes_kept}
use Rattle.sc_mixed.proofs.moves.execute_all.Goals as goal

pub returns-in-Ok : goal.returns-in-Ok
returns-in-Ok c =
    executes_kept c.args.image.now c.args.most c.args.calls.now c.args.world.now c.after.result c.after.new.next c.after.new.calls c.execute_counted.new.world c.after.new.world
    (executes_upto c.args.image.now c.args.most c.args.calls.now c.args.world.now c.in-Ok.done.count c.in-Ok.done.went c.execute_counted.new.regs c.execute_counted.new.world
    c.after.result c.after.new.next c.after.new.calls c.requires c.in-Ok.ensures c.after.ensures.last)
    c.after.ensures.stays

pub returns-in-Err : goal.returns-in-Err
returns-in-Err c = no_room_upto c.args.image.now c.args.most c.args.calls.now c.args.world.now c.execute_counted.new.world c.args.next.now _ c.requires
