-- Yardstick: to be compared with what it restates (docs/TRUST.md).
-- The modules change. A run that stands at a stop stays: it keeps what the modules were, and goes through each change
-- as it next goes on. Active calls go on in the texts that they entered; what is looked up from then on is found in the present ones.
use Rattle.std.specs.Prelude.{ℕ, ◌==◌, Bool, true, false, if◌then◌else◌, List, [], ◌∷◌, ◌++◌, length, drop, Option, Some, None}
use Rattle.sc_core_names.specs.declared.table.Scopes.{Scopes}
use Rattle.sc_meaning.specs.Versions.{Text}
use Rattle.sc_meaning.specs.World.{Frame}
use Rattle.sc_program.specs.declared.storage.StaticId.{StaticId}
use Rattle.sc_session_conflicts.specs.Births.{waits}
use Rattle.sc_world.specs.Changing.{changed_run}
use Rattle.sc_world.specs.Standing.{Standing}
use Rattle.sc_session.specs.declared.present.Present.{Present}
use Rattle.sc_session.specs.declared.state.State.{State}
use Rattle.sc_session.specs.declared.state.State.TheVariants as state
use Rattle.sc_session_forms.specs.declared.calls.Compiled.{Compiled}
use Rattle.sc_session.specs.Modules.{compiled, scopes_numbered, texts}
use Rattle.sc_session.specs.Plain.{Plain}

-- a run that stands so stays as the modules change
abbrev pub stays : State → Bool
stays (state.Stopped r) = true
stays (state.StoppedMixed m) = true
stays _ = false

-- It keeps what they were behind what they were before its earlier changes. Where none stays nothing is kept, and no run is there.
abbrev pub past_with : Bool → List (List Present) → List Present → List (List Present)
past_with true past modules = past ++ modules ∷ []
past_with false past modules = []

abbrev pub come_with : Bool → ℕ → ℕ
come_with true come = come
come_with false come = 0

abbrev pub state_with : Bool → State → State
state_with true s = s
state_with false s = state.Idle

-- the session in which the modules are these
abbrev pub with_modules : List Present → Plain → Plain
with_modules modules session = record session {
  modules = modules;
  past = past_with (stays session.state) session.past session.modules;
  come = come_with (stays session.state) session.come;
  state = state_with (stays session.state) session.state;
}

-- the session without a run
abbrev pub at_rest : Plain → Plain
at_rest session = record session { past = []; come = 0; state = state.Idle }

-- before such a change
abbrev pub kept : Bool → Plain → Plain
kept true session = record session { past = session.past ++ session.modules ∷ [] }
kept false session = session

-- no run goes on
abbrev pub is_over : State → Bool
is_over state.Idle = true
is_over state.Ended = true
is_over _ = false

-- ---- a run that ended is forgotten as another begins, and the text of an evaluation

abbrev pub unended : State → State
unended state.Ended = state.Idle
unended s = s

-- no change of the modules is kept where no run goes on
abbrev pub past_going : Bool → List (List Present) → List (List Present)
past_going over past = if over then [] else past

abbrev pub come_going : Bool → ℕ → ℕ
come_going over come = if over then 0 else come

abbrev pub evaluating_going : Bool → Option Text → Option Text
evaluating_going over t = if over then None else t

abbrev pub forgotten : Plain → Plain
forgotten session = record session {
  past = past_going (is_over session.state) session.past;
  come = come_going (is_over session.state) session.come;
  state = unended session.state;
  evaluating = evaluating_going (is_over session.state) session.evaluating;
}

-- ---- the versions of the texts in a run

abbrev pub all_texts : List (List Present) → List (List Text)
all_texts [] = []
all_texts (modules ∷ past) = texts modules ∷ all_texts past

-- the texts before each change of a run that stands at a stop, and the present ones; elsewhere none
abbrev pub versions_by : Bool → List (List Present) → List Present → List (List Text)
versions_by true past modules = all_texts past ++ texts modules ∷ []
versions_by false past modules = []

abbrev pub versions : Plain → List (List Text)
versions session = versions_by (stays session.state) session.past session.modules

-- those from the one on under which the run stands
abbrev pub versions_left : Plain → List (List Text)
versions_left session = drop session.come (versions session)

-- a run of some texts goes through later versions of them, one after the other
abbrev pub through : List Text → List (List Text) → Option Standing → Option Standing
through old [] r = r
through old (new ∷ later) r = through new later (changed_run old new r)

abbrev pub gone_through : List (List Text) → Option Standing → Option Standing
gone_through [] r = r
gone_through (first ∷ later) r = through first later r

-- the run, behind the changes that wait for it
abbrev pub settled : Plain → Option Standing → Option Standing
settled session r = gone_through (versions_left session) r

-- the session behind a go: no change waits for its run
abbrev pub caught_up : Plain → Plain
caught_up session = record session { come = length session.past }

-- the objects that the changes bear that wait
abbrev pub waiting : Plain → List StaticId
waiting session = waits (versions_left session)

-- ---- what the texts are of which calls may be active

abbrev pub texts_held : List (List Present) → List Present → List Text
texts_held [] modules = texts modules
texts_held (before ∷ past) modules = texts before ++ texts_held past modules

abbrev pub compiled_held : List (List Present) → List Present → List Compiled
compiled_held [] modules = compiled modules
compiled_held (before ∷ past) modules = compiled before ++ compiled_held past modules

abbrev pub or_later : Option Scopes → Option Scopes → Option Scopes
or_later None later = later
or_later (Some scopes) later = Some scopes

-- what the text with a number declares
abbrev pub scopes_held : List (List Present) → List Present → ℕ → Option Scopes
scopes_held [] modules n = scopes_numbered modules n
scopes_held (before ∷ past) modules n = or_later (scopes_numbered before n) (scopes_held past modules n)

-- what the text declares that the innermost call runs
abbrev pub scopes_at : List (List Present) → List Present → List Frame → Option Scopes
scopes_at past modules [] = None
scopes_at past modules (f ∷ frames) = scopes_held past modules f.text
