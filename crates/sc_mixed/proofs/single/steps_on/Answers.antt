use Rattle.sc_mixed.specs.Standing.{standing_on}
use Rattle.sc_mixed.proofs.single.steps_on.Goals as goal

pub returns : goal.returns
returns c = c.left_by.ensures (standing_on c.args.image.now c.args.calls.now c.args.world.now c.args.next c.args.shown) c.passed-came.ensures
