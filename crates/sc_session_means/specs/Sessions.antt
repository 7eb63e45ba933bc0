-- Yardstick: to be compared with what it restates (docs/TRUST.md).
-- What a session tells of its runs of both forms, by the meaning of C: of each go, that what the run has shown is the first of what the meaning gives for the
-- history of its texts, or that it ended as the meaning does (Shows). Each change of the modules at a stop is one version more. A run is followed from its
-- start by `run` on. It is followed no more where two changes wait at one stop, and where it was over at once. A run that evaluates an expression is not
-- followed.
use Rattle.std.specs.Prelude.{◌≡◌, ◌⊎◌, ⊤, ℕ, Bool, true, false, List, [], ◌∷◌, drop, length, Option, Some, None}
use Rattle.sc_interp_world.specs.Outputs.{output}
use Rattle.sc_isa_image.specs.declared.image.Image.{Image}
use Rattle.sc_meaning.specs.Behaviour.{main_key}
use Rattle.sc_meaning.specs.Beside.{Beside}
use Rattle.sc_meaning.specs.Versions.{Text}
use Rattle.sc_meaning.specs.World.{World}
use Rattle.sc_mixed.specs.Standing.{Standing}
use Rattle.sc_mixed.specs.Starting.{Starts}
use Rattle.sc_mixed.specs.declared.calls.Next.{Next}
use Rattle.sc_mixed.specs.declared.course.Course.{Course as Stand}
use Rattle.sc_mixed.specs.declared.course.Course.TheVariants.{On, Over}
use Rattle.sc_mixed_means.specs.Stages.{Build}
use Rattle.sc_program.specs.declared.storage.StaticId.{StaticId}
use Rattle.sc_session_forms.specs.Forms.{are_sources}
use Rattle.sc_session_forms.specs.Stepped.{StepTells}
use Rattle.sc_words.specs.declared.answer.Answer.{Answer}
use Rattle.sc_words.specs.declared.answer.Answer.TheVariants as answer
use Rattle.sc_words.specs.declared.command.Command.{Command}
use Rattle.sc_words.specs.declared.command.Command.TheVariants as command
use Rattle.sc_world.specs.declared.halt.Halt.{Halt}
use Rattle.sc_world.specs.declared.halt.Halt.TheVariants as halt
use Rattle.sc_session.specs.Changing.{stays, versions_left}
use Rattle.sc_session.specs.Going.{IsInput}
use Rattle.sc_session.specs.Linking.{IsImage}
use Rattle.sc_session.specs.Mixing.{MixedGoneThrough, MixedIn, is_mixed}
use Rattle.sc_session.specs.Modules.{texts}
use Rattle.sc_session.specs.Plain.{Plain}
use Rattle.sc_session.specs.Transcript.{Moment}
use Rattle.sc_mixed_goes.specs.Shows.{Course, Passes, begun_course}
use Rattle.sc_mixed_goes.specs.Stretches.{halt_of}

-- where compiled code has the objects of static storage duration, by its image
abbrev pub Placing : Type 0
Placing = Image → List (StaticId × ℕ)

abbrev pub ArePlaced : Placing → List Build → Type 0
ArePlaced at [] = ⊤
ArePlaced at (b ∷ bs) = (b.places ≡ at b.image) × ArePlaced at bs

-- the run that is followed behind a go
abbrev pub left_by : Stand → Halt → Course → Option Course
left_by (On next now) halt.Entered d = Some d
left_by (On next now) halt.AtLine d = Some d
left_by (On next now) halt.Ended d = None
left_by (On next now) (halt.Paused turns) d = Some d
left_by (Over end) h d = None

-- One go of a run, or one step of an instruction, is told with these bytes: what the program wrote behind so many bytes, and where the run halted. These texts
-- came before it, and this image is the present one.
pub record IsTold (at : Placing) (before : ℕ) (came : List (List Text)) (i : Image) (c : Course) (text : List ℕ) (after : Option Course) : Type 0 where
  pub h : Option Halt
  pub stands : Standing
  pub new : Course
  pub passes : Passes c new came stands
  pub placed : ArePlaced at (new.build ∷ new.later)
  pub linked : new.present.image ≡ i
  pub tells : StepTells false before h stands text
  pub left : after ≡ left_by stands.course (halt_of h) new

-- ---- the answers to commands

-- a run of the session's program with this input goes from its start on
abbrev pub GoesFirst : Placing → Plain → List ℕ → Standing → Stand → List ℕ → Option Course → Type 0
GoesFirst at session bytes m (On next now) text after =
    (beside : Beside) × (born : World) × IsTold at 0 [] m.image
    (begun_course (texts session.modules) m.image main_key session.limits.stack session.limits.heap bytes (at m.image) beside born (record { next = next; calls = m.calls; world = m.world; now = now })) text after
GoesFirst at session bytes m (Over end) text after = after ≡ None

abbrev pub RunsSo : Placing → Moment → Option (List ℕ) → List ℕ → Option Course → Type 0
RunsSo at old file text after =
    (bytes : List ℕ) × IsInput old.held file bytes × ((m : Standing) × IsImage old.session.modules old.session.numbers m.image
    × Starts (texts old.session.modules) m.image main_key old.session.limits.stack old.session.limits.heap bytes m × GoesFirst at old.session bytes m m.course text after)

-- it goes through the changes that wait for it, and on from there
abbrev pub GoesFrom : Placing → Plain → Option Course → List ℕ → Option Course → Type 0
GoesFrom at session None text after = after ≡ None
GoesFrom at session (Some c) text after =
    (m : Standing) × (n : Standing) × MixedIn session.state m × MixedGoneThrough (versions_left session) m n
    × IsTold at (length (output n.world.trail)) (drop 1 (versions_left session)) m.image c text after

-- by whether all modules are interpreted, and by whether a run of both forms goes on
abbrev pub RunsSoBy : Bool → Placing → Moment → Option (List ℕ) → List ℕ → Option Course → Type 0
RunsSoBy true at old file text after = after ≡ None
RunsSoBy false at old file text after = RunsSo at old file text after

abbrev pub WalksSoBy : Bool → Placing → Plain → Option Course → List ℕ → Option Course → Type 0
WalksSoBy false at session run text after = after ≡ None
WalksSoBy true at session run text after = GoesFrom at session run text after

-- the run stays where it is, or is followed no more
abbrev pub Stays : Option Course → Option Course → Type 0
Stays run after = (after ≡ run) ⊎ (after ≡ None)

abbrev pub RunTells : Placing → Moment → Option Course → Option (List ℕ) → Answer → Option Course → Type 0
RunTells at old run file (answer.Ran text) after = RunsSoBy (are_sources (texts old.session.modules)) at old file text after
RunTells at old run file _ after = Stays run after

-- the run of an expression takes the place of the one before
abbrev pub EvalTells : Option Course → Answer → Option Course → Type 0
EvalTells run (answer.Ran text) after = after ≡ None
EvalTells run _ after = Stays run after

abbrev pub WalkTells : Placing → Moment → Option Course → Answer → Option Course → Type 0
WalkTells at old run (answer.Ran text) after = WalksSoBy (is_mixed old.session.state) at old.session run text after
WalkTells at old run _ after = Stays run after

-- a change is one version more, if none waits
abbrev pub kept_by : List (List Text) → Option Course → Option Course
kept_by [] run = run
kept_by (t ∷ ts) run = None

-- where a run stays as the modules change
abbrev pub kept_at : Bool → List (List Text) → Option Course → Option Course
kept_at true waiting run = kept_by waiting run
kept_at false waiting run = None

abbrev pub changed_run : Plain → Option Course → Option Course
changed_run session run = kept_at (stays session.state) (drop 1 (versions_left session)) run

abbrev pub ChangeTells : Moment → Option Course → Answer → Option Course → Type 0
ChangeTells old run (answer.Loaded m) after = after ≡ changed_run old.session run
ChangeTells old run (answer.Edited m) after = after ≡ changed_run old.session run
ChangeTells old run (answer.Unloaded m) after = after ≡ changed_run old.session run
ChangeTells old run (answer.Swapped m f) after = after ≡ changed_run old.session run
ChangeTells old run (answer.SwappedFast m) after = after ≡ changed_run old.session run
ChangeTells old run _ after = after ≡ run

-- What an answer tells of a session's run of both forms, and where that stands behind it.
abbrev pub Tells : Placing → Moment → Option Course → Command → Answer → Option Course → Type 0
Tells at old run (command.Run file) said after = RunTells at old run file said after
Tells at old run (command.Eval name line) said after = EvalTells run said after
Tells at old run command.Step said after = WalkTells at old run said after
Tells at old run command.Next said after = WalkTells at old run said after
Tells at old run command.Cont said after = WalkTells at old run said after
Tells at old run command.StepOne said after = WalkTells at old run said after
Tells at old run (command.Load name) said after = ChangeTells old run said after
Tells at old run (command.Unload name) said after = ChangeTells old run said after
Tells at old run (command.Edit name file) said after = ChangeTells old run said after
Tells at old run (command.Swap name form) said after = ChangeTells old run said after
Tells at old run (command.SwapFast name) said after = ChangeTells old run said after
Tells at old run command.Reset said after = Stays run after
Tells at old run _ said after = after ≡ run
