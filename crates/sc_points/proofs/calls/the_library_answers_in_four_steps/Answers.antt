use Rattle.sc_points.proofs.Answering.{library_does}
use Rattle.sc_points.proofs.Calling.{library_acts}
use Rattle.sc_points.proofs.Tells.{library_silent}
use Rattle.sc_points.proofs.calls.the_library_answers_in_four_steps.Goals as goal

pub returns-clause-acts : goal.returns-clause-acts
returns-clause-acts c = library_acts

pub returns-clause-silent : goal.returns-clause-silent
returns-clause-silent c = library_silent

pub returns-clause-answers : goal.returns-clause-answers
returns-clause-answers c = library_does
