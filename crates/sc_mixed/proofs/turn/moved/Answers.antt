use Rattle.sc_mixed.proofs.Telling.{moved_so}
use Rattle.sc_mixed.proofs.turn.moved.Goals as goal

pub returns-in-Ok-counted : goal.returns-in-Ok-counted
returns-in-Ok-counted c =
    moved_so c.args.texts.now c.args.image.now c.args.most c.args.next.now c.args.calls.now c.args.world.now c.args.took.now c.move_on.result c.in-Ok.moved c.move_on.new.next c.move_on.new.calls
    c.move_on.new.world c.counted.new.world c.counted.new.took c.move_on.ensures c.in-Ok.is c.counted.ensures.stays c.in-Ok-counted.ensures.counts
