use Rattle.sc_mixed.proofs.Singles.{moves_once}
use Rattle.sc_mixed.proofs.single.moved_once.Goals as goal

pub returns : goal.returns
returns c =
    moves_once c.args.texts.now c.args.image.now c.args.calls.now c.moved.new.calls c.args.world.now c.moved.new.world c.moved.new.next c.args.next.now 0 c.moved.new.took c.moved.result c.moved.ensures
