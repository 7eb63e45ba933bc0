use Rattle.sc_compiled_frames.proofs.calls.calls_leave_frames.Goals as goal
use Rattle.sc_compiled_frames.proofs.Whole.{call_keeps, eval_keeps, exec_keeps, turn_keeps, resume_keeps}

pub returns-clause-returned : goal.returns-clause-returned
returns-clause-returned c = call_keeps

pub returns-clause-evaluated : goal.returns-clause-evaluated
returns-clause-evaluated c = eval_keeps

pub returns-clause-executed : goal.returns-clause-executed
returns-clause-executed c = exec_keeps

pub returns-clause-turned : goal.returns-clause-turned
returns-clause-turned c = turn_keeps

pub returns-clause-resumed : goal.returns-clause-resumed
returns-clause-resumed c = resume_keeps
