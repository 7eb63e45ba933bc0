use Rattle.sc_points.proofs.Deeds.{branches_does, moves_made, once_moves, slide_moves}
use Rattle.sc_points.proofs.lists.steps_are_joined_to_instructions.Goals as goal

pub returns-clause-once : goal.returns-clause-once
returns-clause-once c = once_moves

pub returns-clause-slide : goal.returns-clause-slide
returns-clause-slide c = slide_moves

pub returns-clause-made : goal.returns-clause-made
returns-clause-made c = moves_made

pub returns-clause-branches : goal.returns-clause-branches
returns-clause-branches c = branches_does
