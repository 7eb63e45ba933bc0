use Rattle.sc_unlink.proofs.Clearing.{jump-absent}
use Rattle.sc_unlink.proofs.stubs.clear_jump.Goals as goal

pub clear_function-requires : goal.clear_function-requires
clear_function-requires c = record { stubs = c.requires; known = c.if-is_function.ensures }

pub returns-then-is_function : goal.returns-then-is_function
returns-then-is_function c = c.clear_function.ensures

pub returns-else-is_function : goal.returns-else-is_function
returns-else-is_function c = jump-absent c.args.image.now c.args.jump.now c.if-is_function.ensures
