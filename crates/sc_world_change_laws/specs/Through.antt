-- Yardstick: to be compared with what it restates (docs/TRUST.md).
-- A run whose texts change while it stands, and the meaning of its program, whose history has all versions that came.
use Rattle.std.specs.Prelude.{◌≡◌, ℕ, ◌<◌, List, [], ◌∷◌, ◌++◌, Option, Some, None}
use Rattle.sc_meaning.specs.World.{World}
use Rattle.sc_meaning.specs.Outcomes.{Done}
use Rattle.sc_meaning.specs.Versions.{Text, History, version_at}
use Rattle.sc_meaning.specs.Changes.{settled}
use Rattle.sc_meaning.specs.Behaviour.{Start, first_world, ending}
use Rattle.sc_meaning.specs.Laws.{with_history, HaveCome}
use Rattle.sc_interp_machine.specs.Runs.{State, Runs, Makes, Answers, Ends}
use Rattle.sc_interp_laws.specs.Worlds as course
use Rattle.sc_interp_change_laws.specs.Following.{reached_in, LastShows}
use Rattle.sc_interp_change_laws.specs.Showing.{IsEvent}
use Rattle.sc_world.specs.Standing.{Standing, world_of}
use Rattle.sc_world.specs.declared.halt.Halt.{Halt}
use Rattle.sc_world.specs.declared.halt.Halt.TheVariants.{Entered, AtLine}

-- this state is where so many steps bring the call of the entry under this history; all its versions have come, and these texts are present
pub record IsAt (s : Start) (h : History) (texts : List Text) (k : ℕ) (state : State) : Type 0 where
  pub born : World
  pub births : settled h (first_world s) ≡ Done tt born
  pub stands : reached_in h s.entry born k ≡ state
  pub come : HaveCome (course.world_of state).count h
  pub present : version_at h (course.world_of state).count ≡ texts

-- so it is while the run is not over; its end is the end that the meaning has under the history, at every bound greater than its steps
abbrev pub StandsIn : Start → History → List Text → ℕ → State → Type 0
StandsIn s h texts k (Runs doing ss env a cs w) = IsAt s h texts k (Runs doing ss env a cs w)
StandsIn s h texts k (Makes t v vs c cs w) = IsAt s h texts k (Makes t v vs c cs w)
StandsIn s h texts k (Answers a cs w) = IsAt s h texts k (Answers a cs w)
StandsIn s h texts k (Ends e) = (n : ℕ) → k < n → ending n (with_history s h) ≡ e

-- its last step ended with the event of this count, and all versions have come by then
pub record IsBehind (s : Start) (h : History) (texts : List Text) (k : ℕ) (state : State) (count : ℕ) : Type 0 where
  pub born : World
  pub births : settled h (first_world s) ≡ Done tt born
  pub stands : reached_in h s.entry born k ≡ state
  pub come : HaveCome count h
  pub present : version_at h count ≡ texts
  pub shows : LastShows h s.entry born k count

-- so it stands behind the last event that passed
abbrev pub IsBehindEvent : Start → History → List Text → Standing → Type 0
IsBehindEvent s h texts m = IsBehind s h texts m.steps m.state (world_of m.state).count

-- the history of a run that stands as so many events have passed, with one version more
abbrev pub with_version : History → List Text → World → History
with_version h new w = h ++ record { count = w.count; texts = new } ∷ []

-- A run of this start through the versions of this history, the last of which are these texts. Where something was shown that no go
-- looked at yet, the last step ended with it.
abbrev pub IsRunThrough : Start → History → List Text → Option Standing → Type 0
IsRunThrough s h texts None = Unit {0}
IsRunThrough s h texts (Some m) = StandsIn s h texts m.steps m.state × (IsEvent m.shown → IsBehindEvent s h texts m)

-- where a go halted at the entry of a function, or at a line
abbrev pub HaltsBehind : Start → History → List Text → Halt → Option Standing → Type 0
HaltsBehind s h texts Entered (Some m) = IsBehindEvent s h texts m
HaltsBehind s h texts AtLine (Some m) = IsBehindEvent s h texts m
HaltsBehind s h texts _ _ = Unit {0}
