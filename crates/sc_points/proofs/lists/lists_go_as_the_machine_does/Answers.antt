use Rattle.sc_points.proofs.Goes.{made_asked, made_goes, made_place}
use Rattle.sc_points.proofs.lists.lists_go_as_the_machine_does.Goals as goal

pub returns-clause-goes : goal.returns-clause-goes
returns-clause-goes c = made_goes

pub returns-clause-asked : goal.returns-clause-asked
returns-clause-asked c = made_asked

pub returns-clause-place : goal.returns-clause-place
returns-clause-place c = made_place
