use Rattle.sc_top.specs.Attended.{ReachedBeside}
use Rattle.sc_top.specs.Beside.{audience, seen}
use Rattle.sc_session.specs.Transcript.{moment}
use Rattle.sc_top.proofs.AttendLemmas.{all_beside, failed_beside, from_unmarked, short_beside}
use Rattle.sc_top.proofs.answer_all.Goals as goal

pub returns-in-Done-clause-heard : goal.returns-in-Done-clause-heard
returns-in-Done-clause-heard g c =
    let reached = rw c.requires.unmarked at c.answer_lines-status.ensures.reached in
    all_beside c.answer_lines-status.result reached c.in-Done.ensures.bytes

pub returns-in-Failed-clause-heard : goal.returns-in-Failed-clause-heard
returns-in-Failed-clause-heard g c =
    let reached = rw c.requires.unmarked at c.answer_lines-status.ensures.reached in
    failed_beside c.answer_lines-status.result reached c.in-Failed.ensures.bytes

pub returns-clause-heard : goal.returns-clause-heard
returns-clause-heard g c =
    let reached = rw c.requires.unmarked at c.answer_lines-status.ensures.reached in
    short_beside c.answer_lines-status.result reached c.in-NoMemory.ensures.bytes
