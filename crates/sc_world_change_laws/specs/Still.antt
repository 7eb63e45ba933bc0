-- Yardstick: to be compared with what it restates (docs/TRUST.md).
-- What a change of the texts leaves of where a run stands.
use Rattle.std.specs.Prelude.{◌≡◌}
use Rattle.sc_meaning.specs.World.{events}
use Rattle.sc_meaning.specs.Laws.{Leads}
use Rattle.sc_interp_world.specs.Outputs.{output}
use Rattle.sc_world.specs.Standing.{Standing, world_of}

-- No step is made and no turn is taken. Things happen, but no event is among them and no byte is written; the calls that are active stay, and so
-- do the counts of calls and of events.
pub record IsStill (m n : Standing) : Type 0 where
  pub steps : n.steps ≡ m.steps
  pub turns : n.turns ≡ m.turns
  pub leads : Leads (world_of m.state) (world_of n.state)
  pub told : events (world_of n.state).trail ≡ events (world_of m.state).trail
  pub written : output (world_of n.state).trail ≡ output (world_of m.state).trail
  pub frames : (world_of n.state).frames ≡ (world_of m.state).frames
  pub enters : (world_of n.state).enters ≡ (world_of m.state).enters
  pub counts : (world_of n.state).count ≡ (world_of m.state).count
