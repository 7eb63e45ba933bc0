-- Machine: the program once more; a theorem ties it to a yardstick (docs/TRUST.md).
-- What a session answers as a run of both forms goes on by one instruction. How the run goes on so is said where it is defined (sc_mixed).
use Rattle.std.specs.Prelude.{◌≡◌, ℕ, List, Option, Some, None}
use Rattle.sc_meaning.specs.Versions.{Text}
use Rattle.sc_mixed.specs.Standing.{Standing}
use Rattle.sc_session_forms.specs.Stepped.{StepGone}
use Rattle.sc_words.specs.declared.answer.Answer.{Answer}
use Rattle.sc_words.specs.declared.answer.Answer.TheVariants as answer
use Rattle.sc_words.specs.declared.stop.StopAt.{StopAt}
use Rattle.sc_world.specs.declared.halt.Halt.{Halt}
use Rattle.sc_session.specs.declared.state.State.{State}
use Rattle.sc_session.specs.declared.state.State.TheVariants as state
use Rattle.sc_session.specs.Changing.{caught_up, versions_left}
use Rattle.sc_session.specs.Going.{IsGivenUp, in_state}
use Rattle.sc_session.specs.Mixing.{MixedGoneThrough, MixedIn, mixed_state}
use Rattle.sc_session.specs.Plain.{Plain}
use Rattle.sc_session.specs.Valued.{going_stops, going_texts, is_valued}

-- the state behind a step that halted the run so, or did not, where the run stands here
abbrev pub single_state : Option Halt → Standing → State
single_state None m = state.PausedMixed m
single_state (Some h) m = mixed_state h m

-- A step of a session's run of both forms from where it stands, with the text that answers it, and the session behind it.
pub record SingleWent (session : Plain) (old : Standing) (text : List ℕ) (new : Plain) : Type 0 where
  pub halts : Option Halt
  pub stands : Standing
  pub gone : StepGone (going_texts session) (going_stops session) (is_valued session) old halts stands text
  pub follows : new ≡ in_state (single_state halts stands) (caught_up session)

-- the answer to a step of a session whose run of both forms, which stood there, was taken out of it, by these texts and stops
abbrev pub SingleGoes : Plain → List Text → List StopAt → Standing → Answer → Plain → Type 0
SingleGoes session modules stops m (answer.Ran text) new =
    (h : Option Halt) × (n : Standing) × StepGone modules stops (is_valued session) m h n text × (new ≡ in_state (single_state h n) (caught_up session))
SingleGoes session modules stops m answer.NoMemory new = new ≡ session
SingleGoes session modules stops m _ new = ⊥

-- the answers to `stepi`: the run goes through the changes that wait for it, and by one instruction from there
abbrev pub CarriesOne : Plain → Answer → Plain → Type 0
CarriesOne session (answer.Ran text) new = (m : Standing) × MixedIn session.state m
    × ((n : Standing) × MixedGoneThrough (versions_left session) m n × SingleWent session n text new)
CarriesOne session answer.NoMemory new = IsGivenUp session new
CarriesOne session _ new = ⊥
