use Rattle.sc_points.proofs.Calling.{argument_slides, callee_slides}
use Rattle.sc_points.proofs.Names.{structure_slides, then_slides, whole_slides}
use Rattle.sc_points.proofs.Steps.{right_slides, store_slides}
use Rattle.sc_points.proofs.operations.answers_wait_for_the_next_part.Goals as goal

pub returns-clause-right : goal.returns-clause-right
returns-clause-right c = right_slides

pub returns-clause-store : goal.returns-clause-store
returns-clause-store c = store_slides

pub returns-clause-structure : goal.returns-clause-structure
returns-clause-structure c = structure_slides

pub returns-clause-function : goal.returns-clause-function
returns-clause-function c = callee_slides

pub returns-clause-argument : goal.returns-clause-argument
returns-clause-argument c = argument_slides

pub returns-clause-comma : goal.returns-clause-comma
returns-clause-comma c = then_slides

pub returns-clause-whole : goal.returns-clause-whole
returns-clause-whole c = whole_slides
