use Rattle.sc_link.proofs.Stubs.{jump-absent}
use Rattle.sc_link.proofs.steps.set_jump.Goals as goal

pub set_function-requires : goal.set_function-requires
set_function-requires c = record { stubs = c.requires; known = c.if-is_function.ensures }

pub returns-then-is_function : goal.returns-then-is_function
returns-then-is_function c = c.set_function.ensures

pub returns : goal.returns
returns c = jump-absent c.args.image.now c.args.jump.0 c.args.jump.1 c.if-is_function.ensures
