-- Inside: plumbing, a representation, an invariant or a promise beside the claim (docs/TRUST.md).
-- The bytes that births and copies of structures move are work.
use Rattle.std.specs.Prelude.{◌+◌, ◌≤◌}
use Rattle.sc_meaning.specs.World.{World}
use Rattle.sc_interp_machine.specs.Runs.{State, Runs, Makes, Answers, Ends}
use Rattle.sc_interp_world.specs.Outputs.{bytes_moved}
use Rattle.sc_interp_laws.specs.Paid.{done}
use Rattle.sc_interp_laws.specs.Worlds.{world_of}

-- from one world to a later one, as many units of work were done at least as bytes were moved
abbrev pub Backed : World → World → Type 0
Backed w v = bytes_moved v.trail + done w ≤ done v + bytes_moved w.trail

-- the same unless a call is over there
abbrev pub UnlessBack : World → State → Type 0
UnlessBack w (Runs mode ss env a cs v) = Backed w v
UnlessBack w (Makes t x vs c cs v) = Backed w v
UnlessBack w (Answers a cs v) = Unit {0}
UnlessBack w (Ends e) = Unit {0}

-- of the step from one state to the next, but of a call that is over in the step that makes it
abbrev pub StepBacked : State → State → Type 0
StepBacked (Runs mode ss env a cs w) t = Backed w (world_of t)
StepBacked (Makes t v vs c cs w) s = UnlessBack w s
StepBacked (Answers a cs w) t = Backed w (world_of t)
StepBacked (Ends e) t = Backed (world_of (Ends e)) (world_of t)
