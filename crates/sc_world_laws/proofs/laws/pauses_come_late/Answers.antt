use Rattle.sc_world_laws.proofs.Pausing.{pauses_late, pauses_passed, starts_lean, goes_lean}
use Rattle.sc_world_laws.proofs.laws.pauses_come_late.Goals as goal

pub returns-clause-work : goal.returns-clause-work
returns-clause-work c = pauses_late

pub returns-clause-passed : goal.returns-clause-passed
returns-clause-passed c = pauses_passed

pub returns-clause-starts : goal.returns-clause-starts
returns-clause-starts c = starts_lean

pub returns-clause-keeps : goal.returns-clause-keeps
returns-clause-keeps c = goes_lean
