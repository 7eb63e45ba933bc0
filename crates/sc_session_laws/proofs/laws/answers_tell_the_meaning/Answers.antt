use Rattle.sc_session_laws.proofs.Answering.{answers_tell, nothing_yet, session_stands}
use Rattle.sc_session_laws.proofs.laws.answers_tell_the_meaning.Goals as goal

pub returns-clause-first : goal.returns-clause-first
returns-clause-first c = nothing_yet

pub returns-clause-tells : goal.returns-clause-tells
returns-clause-tells c = answers_tell

pub returns-clause-stands : goal.returns-clause-stands
returns-clause-stands c = session_stands
