use Rattle.sc_meaning.specs.World.{Happens, pass}
use Rattle.sc_interp_change_laws.proofs.Later.{changes_now}
use Rattle.sc_interp_change_laws.proofs.laws.changes_are_the_next_version.Goals as goal

pub returns-clause-passes : goal.returns-clause-passes
returns-clause-passes c = λ h v e w come now. changes_now h v (pass (Happens e) w) come now
