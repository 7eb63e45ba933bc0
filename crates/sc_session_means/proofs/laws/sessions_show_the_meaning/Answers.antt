use Rattle.sc_session_means.proofs.Answering.{answers_tell, nothing_yet}
use Rattle.sc_session_means.proofs.laws.sessions_show_the_meaning.Goals as goal

pub returns-clause-first : goal.returns-clause-first
returns-clause-first c = nothing_yet

pub returns-clause-tells : goal.returns-clause-tells
returns-clause-tells c = answers_tell
