-- Yardstick: to be compared with what it restates (docs/TRUST.md).
-- A run whose texts become others while it stands.
use Rattle.std.specs.Prelude.{if◌then◌else◌, List, Option, Some, None}
use Rattle.sc_meaning.specs.World.{World}
use Rattle.sc_meaning.specs.Outcomes.{Outcome, Done, Over}
use Rattle.sc_meaning.specs.Versions.{Text}
use Rattle.sc_meaning.specs.Changes.{changed}
use Rattle.sc_interp_machine.specs.Runs.{State, Runs, Makes, Answers, Ends}
use Rattle.sc_interp.specs.declared.stepped.Shown.TheVariants.{Nothing}
use Rattle.sc_world.specs.Standing.{Standing, world_of, has_ended}

-- the same place in another world
abbrev pub in_world : State → World → State
in_world (Runs doing ss env a cs w) v = Runs doing ss env a cs v
in_world (Makes t x xs c cs w) v = Makes t x xs c cs v
in_world (Answers a cs w) v = Answers a cs v
in_world (Ends e) v = Ends e

-- it goes on from there in the changed world, or the change ended it
abbrev pub changed_to : Standing → Outcome (Unit {0}) → Standing
changed_to m (Done t w) = record m { state = in_world m.state w }
changed_to m (Over e) = record m { state = Ends e; shown = Nothing }

-- a run that is over stays as it is
abbrev pub changed_standing : List Text → List Text → Standing → Standing
changed_standing old new m = if has_ended m.state then m else changed_to m (changed old new (world_of m.state))

abbrev pub changed_run : List Text → List Text → Option Standing → Option Standing
changed_run old new None = None
changed_run old new (Some m) = Some (changed_standing old new m)
