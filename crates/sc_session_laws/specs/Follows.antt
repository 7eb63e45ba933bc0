-- Inside: plumbing, a representation, an invariant or a promise beside the claim (docs/TRUST.md).
-- How a session's run, as the machine has it, follows one of the meaning.
use Rattle.std.specs.Prelude.{◌≡◌, ℕ, ◌≤◌, ◌+◌, ◌*◌, true, List, [], drop, length, Option, Some, None}
use Rattle.sc_core.specs.declared.module.Fun.{Fun}
use Rattle.sc_meaning.specs.World.{Event}
use Rattle.sc_meaning.specs.Behaviour.{Start}
use Rattle.sc_meaning.specs.Laws.{with_history}
use Rattle.sc_meaning.specs.Versions.{History, Text, fun_by}
use Rattle.sc_interp_laws.specs.Lean.{IsLean, LeanStmt}
use Rattle.sc_interp_laws.specs.Near.{near}
use Rattle.sc_interp_laws.specs.Paid.{done}
use Rattle.sc_world.specs.Standing.{Standing, world_of}
use Rattle.sc_world_change_laws.specs.Still.{IsStill}
use Rattle.sc_world_change_laws.specs.Through.{IsBehindEvent, IsRunThrough}
use Rattle.sc_world_laws.specs.Formed.{AreFormed}
use Rattle.sc_world_laws.specs.Told.{IsAt, now}
use Rattle.sc_session.specs.declared.present.Present.{Present}
use Rattle.sc_session.specs.declared.state.State.{State}
use Rattle.sc_session.specs.declared.state.State.TheVariants as state
use Rattle.sc_session.specs.Changing.{gone_through, versions_by}
use Rattle.sc_session.specs.Plain.{Plain}
use Rattle.sc_session.specs.Modules.{texts}
use Rattle.sc_session.specs.Valued.{with_evaluation}
use Rattle.sc_session_laws.specs.Courses.{Course}

-- the run as the meaning has it, where these events were passed
abbrev pub course_of : Start → Standing → List Event → Course
course_of s m old = record { start = s; steps = m.steps; turns = m.turns; world = world_of m.state; passed = old }

-- the turns so far, and the steps up to the next work, are paid by the work that was done
abbrev pub Earned : Standing → Type 0
Earned m = m.turns + near m.state ≤ 7 + 9 * done (world_of m.state)

-- A run that is not over, whose last version are these modules: it stands at a place, and behind the changes that wait for it it goes
-- through its history.
pub record Follows (modules : List Text) (r settled : Option Standing) (run : Option Course) : Type 0 where
  pub start : Start
  pub history : History
  pub place : Standing
  pub behind : Standing
  pub old : List Event
  pub known : r ≡ Some place
  pub settles : settled ≡ Some behind
  pub same : run ≡ Some (course_of (with_history start history) place old)
  pub of : IsRunThrough start history modules (Some behind)
  pub still : IsStill place behind
  pub among : IsAt behind old
  pub lean : IsLean behind.state
  pub earned : Earned behind

-- at a stop it stands behind an event, which was looked at, so the next change may come there
pub record FollowsThere (modules : List Text) (r settled : Option Standing) (run : Option Course) : Type 0 where
  pub follows : Follows modules r settled run
  pub event : IsBehindEvent follows.start follows.history modules follows.behind
  pub seen : now follows.behind ≡ []

-- so does each run of interpreted modules that goes on in a state for which no change waits; one of both forms is none of the meaning's
abbrev pub FollowsOn : List Text → State → Option Course → Type 0
FollowsOn modules state.Idle run = run ≡ None
FollowsOn modules (state.Stopped r) run = FollowsThere modules r r run
FollowsOn modules (state.Paused r) run = Follows modules r r run
FollowsOn modules (state.StoppedMixed w) run = run ≡ None
FollowsOn modules (state.PausedMixed w) run = run ≡ None
FollowsOn modules state.Ended run = run ≡ None

-- a run behind the changes that wait for it at a stop
abbrev pub behind_changes : List (List Present) → ℕ → List Present → Option Standing → Option Standing
behind_changes past come modules r = gone_through (drop come (versions_by true past modules)) r

-- the same where changes wait, with what the modules were before, and the one of them under which the run stands; and by the text of an
-- evaluation, which halts at no stop
abbrev pub FollowsIn : Option Text → List (List Present) → ℕ → List Present → State → Option Course → Type 0
FollowsIn t past come modules state.Idle run = run ≡ None
FollowsIn t past come modules (state.Stopped r) run = (t ≡ None) × (come ≤ length past) × FollowsThere (texts modules) r (behind_changes past come modules r) run
FollowsIn t past come modules (state.Paused r) run = Follows (with_evaluation t (texts modules)) r r run
FollowsIn t past come modules (state.StoppedMixed w) run = run ≡ None
FollowsIn t past come modules (state.PausedMixed w) run = run ≡ None
FollowsIn t past come modules state.Ended run = run ≡ None

-- no step is made for nothing in the functions of a text (Lean)
abbrev pub LeanText : Option Text → Type 0
LeanText None = Unit {0}
LeanText (Some t) = (home : Option (List ℕ)) (name : List ℕ) (f : Fun) → fun_by home name t.core ≡ Some f → LeanStmt f.body

-- its modules are checked, and the run that goes on, if there is one of interpreted modules, is one of them and of an evaluation
abbrev pub Keeps : Plain → Option Course → Type 0
Keeps session run = AreFormed (texts session.modules) × LeanText session.evaluating × FollowsIn session.evaluating session.past session.come session.modules session.state run
