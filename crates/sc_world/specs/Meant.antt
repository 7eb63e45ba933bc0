-- Yardstick: to be compared with what it restates (docs/TRUST.md).
-- How a run stands to the meaning of its program.
use Rattle.std.specs.Prelude.{◌≡◌, ℕ, ◌<◌, List, [], Option, Some, None}
use Rattle.sc_meaning.specs.World.{World}
use Rattle.sc_meaning.specs.Outcomes.{Done}
use Rattle.sc_meaning.specs.Versions.{Text}
use Rattle.sc_meaning.specs.Changes.{statics_born}
use Rattle.sc_meaning.specs.Behaviour.{Start, first_world, ending}
use Rattle.sc_interp_machine.specs.Runs.{State, Runs, Makes, Answers, Ends}
use Rattle.sc_interp.specs.Steady.{alone, ran}
use Rattle.sc_world.specs.Standing.{Standing}
use Rattle.sc_world.specs.Goes.{entry_next}

-- this state is where so many steps bring the call of the entry behind the births
abbrev pub IsReached : Start → List Text → ℕ → State → Type 0
IsReached s texts k state =
    (born : World) × (statics_born texts (first_world s) ≡ Done tt born) × (ran k (alone texts) texts (entry_next texts s.entry [] born) ≡ state)

-- so it is while the run is not over; its end is the end that the meaning has, at every bound greater than its steps
abbrev pub Stands : Start → List Text → ℕ → State → Type 0
Stands s texts k (Runs doing ss env a cs w) = IsReached s texts k (Runs doing ss env a cs w)
Stands s texts k (Makes t v vs c cs w) = IsReached s texts k (Makes t v vs c cs w)
Stands s texts k (Answers a cs w) = IsReached s texts k (Answers a cs w)
Stands s texts k (Ends e) = (n : ℕ) → k < n → ending n s ≡ e

-- a run of this start, whose program are these texts
abbrev pub IsRunOf : Start → List Text → Option Standing → Type 0
IsRunOf s texts None = Unit {0}
IsRunOf s texts (Some m) = (s.history ≡ alone texts) × Stands s texts m.steps m.state
