use Rattle.sc_compiled_bodies.proofs.Ends.{entry_asked, exit_asked, fall_asked}
use Rattle.sc_compiled_bodies.proofs.functions.entries_and_exits_are_asked_for.Goals as goal

pub returns-clause-entry : goal.returns-clause-entry
returns-clause-entry c = entry_asked

pub returns-clause-exit : goal.returns-clause-exit
returns-clause-exit c = exit_asked

pub returns-clause-fall : goal.returns-clause-fall
returns-clause-fall c = fall_asked
