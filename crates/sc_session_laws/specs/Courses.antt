-- Yardstick: to be compared with what it restates (docs/TRUST.md).
-- A session's run as the meaning of C has it, and what an answer tells of it. The meaning is that of a program whose modules are all
-- interpreted, with all versions of them that the run went through: each change of the modules at a stop is one version more of its
-- history, at the events that have passed by then. Of such a run all that is told is what the meaning gives for its history, from its
-- start on. Of a run in which some modules are or were in object form nothing is claimed here: it is no run of the meaning's, so it is
-- `None`, and so is what is behind each of its goes. What its answers tell is what holds of the world in which it stands (Mixing), and not that
-- this world is one of the meaning's.
use Rattle.std.specs.Prelude.{◌≡◌, ◌<◌, ◌≤◌, ◌⊎◌, ℕ, ◌+◌, ◌-◌, ◌*◌, ◌&&◌, Bool, true, false, List, [], ◌∷◌, ◌++◌, length, drop, Option, Some, None}
use Rattle.sc_meaning.specs.World.{World, Event, events}
use Rattle.sc_meaning.specs.Outcomes.{world_at}
use Rattle.sc_meaning.specs.Behaviour.{Start, ending, events_upto, first_world, main_key}
use Rattle.sc_meaning.specs.Laws.{Leads, with_history}
use Rattle.sc_meaning.specs.Versions.{Text}
use Rattle.sc_interp.specs.Ends.{start_of, end_of}
use Rattle.sc_interp_access.specs.declared.ended.Ended.{Ended}
use Rattle.sc_interp_access.specs.declared.ended.Ended.TheVariants as ended
use Rattle.sc_interp_world.specs.Outputs.{output}
use Rattle.sc_session_forms.specs.Forms.{are_sources}
use Rattle.sc_session_texts.specs.Ends.{entered_text, line_text, outcome_text, stop_text, on_new_line}
use Rattle.sc_words.specs.declared.answer.Answer.{Answer}
use Rattle.sc_words.specs.declared.answer.Answer.TheVariants as answer
use Rattle.sc_words.specs.declared.command.Command.{Command}
use Rattle.sc_words.specs.declared.command.Command.TheVariants as command
use Rattle.sc_words.specs.declared.stop.StopAt.{StopAt}
use Rattle.sc_words.specs.declared.stop.Walk.{Walk}
use Rattle.sc_words.specs.declared.stop.Walk.TheVariants as walk
use Rattle.sc_world.specs.declared.halt.Halt.{Halt}
use Rattle.sc_world.specs.declared.halt.Halt.TheVariants as halt
use Rattle.sc_world.specs.Standing.{Standing, world_in}
use Rattle.sc_world_laws.specs.Told.{selects, HaltsAt, IsLastAt, PassedEach}
use Rattle.sc_session.specs.declared.state.State.{State}
use Rattle.sc_session.specs.declared.state.State.TheVariants as state
use Rattle.sc_session.specs.Changing.{stays}
use Rattle.sc_session.specs.Modules.{texts}
use Rattle.sc_session.specs.Plain.{Plain}
use Rattle.sc_session.specs.Evaluating.{Asks, eval_key}
use Rattle.sc_session.specs.Going.{IsInput}
use Rattle.sc_session.specs.Mixing.{is_mixed}
use Rattle.sc_session.specs.Stopping.{places}
use Rattle.sc_session.specs.Transcript.{Moment}
use Rattle.sc_session.specs.Valued.{going_stops, is_valued}

-- A run of a program: how it started, with the history of its texts so far; how many steps were done since the call of the entry went out,
-- and how many turns they took; the world behind them, with all that has happened; and the events that were passed, which a go looked at.
pub record Course : Type 0 where
  pub start : Start
  pub steps : ℕ
  pub turns : ℕ
  pub world : World
  pub passed : List Event

-- All that has happened leads from the start to the world of the run, so its trail alone says what it is; and it is the beginning of all
-- that the meaning gives, at every bound that is greater than the steps. Eight times the turns and one more, for each node of the
-- program and once more, is such a bound.
pub record IsMeant (c : Course) : Type 0 where
  pub comes : Leads (first_world c.start) c.world
  pub happens : (b : ℕ) → c.steps < b → Leads c.world (world_at (ending b c.start))
  pub enough : (nodes : ℕ) → c.steps < 8 * (c.turns + 1) * (nodes + 1)

-- A run that goes from its start on: no turn was taken, no event was passed, and no byte was written.
pub record Begins (s : Start) (c : Course) : Type 0 where
  pub start : c.start ≡ s
  pub meant : IsMeant c
  pub untaken : c.turns ≡ 0
  pub unpassed : c.passed ≡ []
  pub unwritten : output c.world.trail ≡ []

-- ---- a go

-- the meaning's end of a run is this one, at every such bound
abbrev pub EndsSo : Course → Ended → Type 0
EndsSo d e = (b : ℕ) → d.steps < b → end_of e d.world ≡ Some (ending b d.start)

-- A pause: so many turns were taken in the go, and no fewer than it may take; and of all that the meaning gives, each event before
-- which the go's work is less than a 64th of them was passed. So was each before which the run's work is less than a 64th of all
-- its turns.
pub record IsPause (turns : ℕ) (c d : Course) (t : ℕ) : Type 0 where
  pub took : t ≡ d.turns - c.turns
  pub enough : turns ≤ t
  pub late : (b : ℕ) → d.steps < b → PassedEach t c.world.trail d.world.trail (world_at (ending b d.start)).trail
  pub late_in_all : (b : ℕ) → d.steps < b → PassedEach d.turns [] d.world.trail (world_at (ending b d.start)).trail

abbrev pub PausesSo : ℕ → Course → Course → Halt → Type 0
PausesSo turns c d halt.Entered = Unit {0}
PausesSo turns c d halt.AtLine = Unit {0}
PausesSo turns c d halt.Ended = Unit {0}
PausesSo turns c d (halt.Paused t) = IsPause turns c d t

-- A go from one place of a run to another. Of the events that the meaning gives for its history it passed those up to the first that a
-- stop or the walk selects, behind the old place; or all of them, where none is selected; or some, where it paused before one is. Where
-- it halted at an event, this is the last thing that happened, and it is the innermost call's: so what is said of that call is what the
-- event tells.
pub record Passes (stops : List StopAt) (how : Walk) (turns : ℕ) (c : Course) (h : Halt) (d : Course) : Type 0 where
  pub same : d.start ≡ c.start
  pub meant : IsMeant d
  pub passed : d.passed ≡ events d.world.trail
  pub halts : (b : ℕ) → d.steps < b → HaltsAt (selects stops how c.world.enters) h c.passed (events_upto b d.start) d.passed
  pub last : IsLastAt h d.world
  pub pauses : PausesSo turns c d h

-- ---- what is told of it

-- What is said of where a run halted, by whether it is an evaluation: of an undefined step, its report; of an evaluation that exits with a
-- number, that this is the value, just where no call is active behind it (`outcome_text`).
abbrev pub Says : Bool → Halt → Course → List ℕ → Type 0
Says valued halt.Entered d said = said ≡ entered_text d.world.frames
Says valued halt.AtLine d said = said ≡ line_text d.world.frames
Says valued halt.Ended d said = (e : Ended) × EndsSo d e × (Some said ≡ outcome_text valued e d.world)
Says valued (halt.Paused t) d said = Some said ≡ stop_text t ended.OutOfSteps d.world

-- a run that is over goes on no more
abbrev pub left_by : Halt → Course → Option Course
left_by halt.Entered d = Some d
left_by halt.AtLine d = Some d
left_by halt.Ended d = None
left_by (halt.Paused t) d = Some d

-- One go is told with these bytes, of which the first went out while it went on: what the program wrote in it, and on a line of its own
-- where the run halted.
pub record IsTold (stops : List StopAt) (how : Walk) (turns : ℕ) (valued : Bool) (c : Course) (front text : List ℕ) (after : Option Course) : Type 0 where
  pub h : Halt
  pub new : Course
  pub passes : Passes stops how turns c h new
  pub said : List ℕ
  pub says : Says valued h new said
  pub whole : front ++ text ≡ on_new_line (drop (length (output c.world.trail)) (output new.world.trail)) said
  pub left : after ≡ left_by h new

-- ---- the answers to commands

-- A run of the session's program with this input goes from its start on.
abbrev pub RunsSo : Moment → Option (List ℕ) → List ℕ → List ℕ → Option Course → Type 0
RunsSo old file front text after =
    (bytes : List ℕ) × IsInput old.held file bytes
    × ((c : Course) × Begins (start_of (texts old.session.modules) main_key old.session.limits.stack old.session.limits.heap bytes) c
    × IsTold (places old.session.stops) walk.Cont old.session.limits.turns false c front text after)

-- The run goes on from where it stands.
abbrev pub WalksSo : Moment → Option Course → Walk → List ℕ → List ℕ → Option Course → Type 0
WalksSo old run how front text after =
    (c : Course) × (run ≡ Some c) × IsTold (going_stops old.session) how old.session.limits.turns (is_valued old.session) c front text after

-- The run of an expression goes from its start on, without input, stops or a call of `main`: the text of its function stands behind those of
-- the modules, and that function is called.
abbrev pub EvaluatesSo : Moment → List ℕ → List ℕ → List ℕ → List ℕ → Option Course → Type 0
EvaluatesSo old name line front text after =
    (t : Text) × Asks old.session name line t
    × ((c : Course) × Begins (start_of (texts old.session.modules ++ t ∷ []) (eval_key name) old.session.limits.stack old.session.limits.heap []) c
    × IsTold [] walk.Cont old.session.limits.turns true c front text after)

-- The same by whether all modules are interpreted. Where some are not, it is a run of both forms, of which nothing is told here.
abbrev pub RunsSoBy : Bool → Moment → Option (List ℕ) → List ℕ → List ℕ → Option Course → Type 0
RunsSoBy true old file front text after = RunsSo old file front text after
RunsSoBy false old file front text after = after ≡ None

abbrev pub EvaluatesSoBy : Bool → Moment → List ℕ → List ℕ → List ℕ → List ℕ → Option Course → Type 0
EvaluatesSoBy true old name line front text after = EvaluatesSo old name line front text after
EvaluatesSoBy false old name line front text after = after ≡ None

-- The same by whether a run of both forms goes on in the session.
abbrev pub WalksSoBy : Bool → Moment → Option Course → Walk → List ℕ → List ℕ → Option Course → Type 0
WalksSoBy false old run how front text after = WalksSo old run how front text after
WalksSoBy true old run how front text after = after ≡ None

-- ---- the modules change

-- The texts become these where a run stands: its history has one version more, at the events that have passed so far.
abbrev pub with_texts : List Text → Course → Course
with_texts new c = record c { start = with_history c.start (c.start.history ++ record { count = c.world.count; texts = new } ∷ []) }

abbrev pub changed_course : List Text → Option Course → Option Course
changed_course new None = None
changed_course new (Some c) = Some (with_texts new c)

abbrev pub changed_by : Bool → List Text → Option Course → Option Course
changed_by true new run = changed_course new run
changed_by false new run = None

-- The modules have changed, and their texts are these. A run that stands at a stop goes on with them as its next version, where all of
-- them are interpreted. Else there is none any more, or one of both forms.
abbrev pub ChangesSo : Moment → Option Course → List Text → Option Course → Type 0
ChangesSo old run new after = after ≡ changed_by (stays old.session.state && are_sources new) new run

-- The run stays where it is, or there is none any more of which something is told.
abbrev pub Stays : Option Course → Option Course → Type 0
Stays run after = (after ≡ run) ⊎ (after ≡ None)

abbrev pub RunTells : Moment → Option Course → Option (List ℕ) → List ℕ → Answer → Option Course → Type 0
RunTells old run file front (answer.Ran text) after = RunsSoBy (are_sources (texts old.session.modules)) old file front text after
RunTells old run file front _ after = Stays run after

abbrev pub EvalTells : Moment → Option Course → List ℕ → List ℕ → List ℕ → Answer → Option Course → Type 0
EvalTells old run name line front (answer.Ran text) after = EvaluatesSoBy (are_sources (texts old.session.modules)) old name line front text after
EvalTells old run name line front _ after = Stays run after

abbrev pub WalkTells : Moment → Option Course → Walk → List ℕ → Answer → Option Course → Type 0
WalkTells old run how front (answer.Ran text) after = WalksSoBy (is_mixed old.session.state) old run how front text after
WalkTells old run how front _ after = Stays run after

abbrev pub ChangeTells : Moment → Option Course → Answer → List Text → Option Course → Type 0
ChangeTells old run (answer.Loaded m) new after = ChangesSo old run new after
ChangeTells old run (answer.Edited m) new after = ChangesSo old run new after
ChangeTells old run (answer.Unloaded m) new after = ChangesSo old run new after
ChangeTells old run (answer.Swapped m f) new after = ChangesSo old run new after
ChangeTells old run (answer.SwappedFast m) new after = ChangesSo old run new after
ChangeTells old run _ new after = Stays run after

-- What an answer tells of a session's run, behind these bytes, which went out; the texts of the modules then; and where the run stands.
abbrev pub Tells : Moment → Option Course → Command → List ℕ → Answer → List Text → Option Course → Type 0
Tells old run (command.Run file) front said new after = RunTells old run file front said after
Tells old run (command.Eval name line) front said new after = EvalTells old run name line front said after
Tells old run command.Step front said new after = WalkTells old run walk.Step front said after
Tells old run command.Next front said new after = WalkTells old run walk.Next front said after
Tells old run command.Cont front said new after = WalkTells old run walk.Cont front said after
Tells old run (command.Load name) front said new after = ChangeTells old run said new after
Tells old run (command.Unload name) front said new after = ChangeTells old run said new after
Tells old run (command.Edit name file) front said new after = ChangeTells old run said new after
Tells old run (command.Swap name form) front said new after = ChangeTells old run said new after
Tells old run (command.SwapFast name) front said new after = ChangeTells old run said new after
Tells old run _ front said new after = Stays run after

-- The run of interpreted modules that goes on in a session stands in this world, in which `where` and `print` are answered.
abbrev pub StandsIn : Option Standing → Option Course → Type 0
StandsIn r None = ⊥
StandsIn r (Some c) = world_in r ≡ Some c.world

-- Where such a run goes on there is one of the meaning's. Where none does, or one of both forms, there is none.
abbrev pub Stands : State → Option Course → Type 0
Stands state.Idle run = run ≡ None
Stands (state.Stopped r) run = StandsIn r run
Stands (state.Paused r) run = StandsIn r run
Stands (state.StoppedMixed w) run = run ≡ None
Stands (state.PausedMixed w) run = run ≡ None
Stands state.Ended run = run ≡ None

abbrev pub StandsSo : Plain → Option Course → Type 0
StandsSo session run = Stands session.state run
