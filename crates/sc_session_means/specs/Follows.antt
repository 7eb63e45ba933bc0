-- Inside: plumbing, a representation, an invariant or a promise beside the claim (docs/TRUST.md).
-- How a session's run of both forms follows one of the theorem.
use Rattle.std.specs.Prelude.{◌≡◌, ◌⊎◌, ℕ, true, List, [], ◌∷◌, drop, length, Option, Some, None}
use Rattle.sc_interp_change_laws.specs.Showing.{IsEvent}
use Rattle.sc_isa_image.specs.declared.image.Image.{Image}
use Rattle.sc_mixed.specs.Standing.{Standing}
use Rattle.sc_meaning.specs.Versions.{Text}
use Rattle.sc_session.specs.declared.present.Present.{Present}
use Rattle.sc_session.specs.declared.state.State.{State}
use Rattle.sc_session.specs.declared.state.State.TheVariants as state
use Rattle.sc_session.specs.Changing.{versions_by}
use Rattle.sc_session.specs.Modules.{texts}
use Rattle.sc_session.specs.Plain.{Plain}
use Rattle.sc_session_means.specs.Sessions.{ArePlaced, Placing}
use Rattle.sc_mixed_goes.specs.Shows.{Course, IsRun}
use Rattle.sc_mixed_goes.specs.Stretches.{standing_at}

-- a run is followed
pub record Follows (at : Placing) (run : Option Course) (c : Course) : Type 0 where
  pub is : run ≡ Some c
  pub runs : IsRun c
  pub placed : ArePlaced at (c.build ∷ c.later)

-- under the present texts
pub record StandsNow (modules : List Present) (c : Course) (m : Standing) : Type 0 where
  pub texts : c.present.texts ≡ texts modules
  pub at : m ≡ standing_at c.present.image c.place

-- one change waits
pub record OneWaits (past : List (List Present)) (come : ℕ) (modules : List Present) (c : Course) (m : Standing) : Type 0 where
  pub image : Image
  pub left : drop come (versions_by true past modules) ≡ c.present.texts ∷ texts modules ∷ []
  pub at : m ≡ standing_at image c.place

abbrev pub Waits : List (List Present) → ℕ → List Present → Course → Standing → Type 0
Waits past come modules c m = ((come ≡ length past) × StandsNow modules c m) ⊎ OneWaits past come modules c m

-- at a stop it stands behind an event
abbrev pub FollowsThere : Placing → List (List Present) → ℕ → List Present → Standing → Option Course → Type 0
FollowsThere at past come modules m run = (c : Course) × Follows at run c × IsEvent c.place.now × Waits past come modules c m

abbrev pub FollowsPaused : Placing → List Present → Standing → Option Course → Type 0
FollowsPaused at modules m run = (c : Course) × Follows at run c × StandsNow modules c m

-- in each state; a run that evaluates an expression is not followed
abbrev pub FollowsIn : Placing → Option Text → List (List Present) → ℕ → List Present → State → Option Course → Type 0
FollowsIn at t past come modules state.Idle run = run ≡ None
FollowsIn at t past come modules (state.Stopped r) run = run ≡ None
FollowsIn at t past come modules (state.Paused r) run = run ≡ None
FollowsIn at t past come modules (state.StoppedMixed m) run = (run ≡ None) ⊎ ((t ≡ None) × FollowsThere at past come modules m run)
FollowsIn at t past come modules (state.PausedMixed m) run = (run ≡ None) ⊎ ((t ≡ None) × FollowsPaused at modules m run)
FollowsIn at t past come modules state.Ended run = run ≡ None

abbrev pub Keeps : Placing → Plain → Option Course → Type 0
Keeps at session run = FollowsIn at session.evaluating session.past session.come session.modules session.state run
