use Rattle.sc_compiled_frames.proofs.Blocks.{births_leave, deaths_leave}
use Rattle.sc_compiled_frames.proofs.frames.births_and_deaths_leave_the_rest.Goals as goal

pub returns-clause-births : goal.returns-clause-births
returns-clause-births c = births_leave

pub returns-clause-deaths : goal.returns-clause-deaths
returns-clause-deaths c = deaths_leave
