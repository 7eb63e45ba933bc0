-- Yardstick: to be compared with what it restates (docs/TRUST.md).
-- A run of the machine under a history that gets one version more while it stands.
use Rattle.std.specs.Prelude.{◌≡◌, ℕ, zero, suc, ◌+◌, ◌≤◌, List, []}
use Rattle.sc_base.specs.declared.key.Key.{Key}
use Rattle.sc_meaning.specs.World.{World, Event, GoesOut, pass}
use Rattle.sc_meaning.specs.Versions.{Text, History, callee_of, version_at}
use Rattle.sc_meaning.specs.Changes.{changed, happened}
use Rattle.sc_meaning.specs.Expressions.{Env}
use Rattle.sc_interp_machine.specs.declared.body.Doing.{Doing}
use Rattle.sc_interp_machine.specs.declared.body.Pending.{Pending}
use Rattle.sc_interp_machine.specs.Runs.{Active, Caller, State, Runs, Makes, Answers, Ends, then_goes, callee_next, advance}
use Rattle.sc_interp_laws.specs.Worlds.{world_of}

-- the same place in the world in which the texts have changed; or the run is over, where the change ended it
abbrev pub changed_state : List Text → List Text → State → State
changed_state old new (Runs doing ss env a cs w) = then_goes (changed old new w) (λ _ v. Runs doing ss env a cs v)
changed_state old new (Makes t v vs c cs w) = then_goes (changed old new w) (λ _ u. Makes t v vs c cs u)
changed_state old new (Answers a cs w) = then_goes (changed old new w) (λ _ v. Answers a cs v)
changed_state old new (Ends e) = Ends e

-- where a run of a history stands so many steps behind the call of the entry from a world
abbrev pub reached_in : History → Key → World → ℕ → State
reached_in h key w zero = callee_next h key [] (callee_of (version_at h (pass GoesOut w).count) key) [] (pass GoesOut w)
reached_in h key w (suc k) = advance h (reached_in h key w k)

-- What comes of a history behind so many events, where these texts are present then, ends with one event more, the one with this count:
-- a body goes on behind it, whatever the event changes.
pub record Shows (n : ℕ) (texts : List Text) (count : ℕ) (f : History → State) : Type 0 where
  pub event : Event
  pub world : World
  pub doing : Doing
  pub pending : List Pending
  pub env : Env
  pub active : Active
  pub callers : List Caller
  pub later : n ≤ world.count
  pub counts : world.count + 1 ≡ count
  pub comes : (h : History) → version_at h n ≡ texts → f h ≡ then_goes (happened h event world) (λ _ w. Runs doing pending env active callers w)

-- The last of so many steps behind the call of the entry ended with the event with this count: so it did where a run stands at the entry of
-- a function, or at a line.
abbrev pub LastShows : History → Key → World → ℕ → ℕ → Type 0
LastShows h key w zero count = Shows w.count (version_at h w.count) count (λ g. reached_in g key w 0)
LastShows h key w (suc k) count = Shows (world_of (reached_in h key w k)).count (version_at h (world_of (reached_in h key w k)).count) count (λ g. advance g (reached_in h key w k))
