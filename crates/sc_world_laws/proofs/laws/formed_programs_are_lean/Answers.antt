use Rattle.sc_world_laws.proofs.LeanFormed.{formed_lean}
use Rattle.sc_world_laws.proofs.laws.formed_programs_are_lean.Goals as goal

pub returns : goal.returns
returns c = formed_lean
