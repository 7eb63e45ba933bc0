-- Yardstick: to be compared with what it restates (docs/TRUST.md).
-- What a session answers to each command, and the session behind it.
use Rattle.std.specs.Prelude.{◌≡◌, ◌⊎◌, ℕ, ◌+◌, Bool, true, false, if◌then◌else◌, List, [], take, Option, Some, None, Result, Ok, Err}
use Rattle.sc_base.specs.declared.key.Key.{Key}
use Rattle.sc_base.specs.declared.memory.Form.{Form}
use Rattle.sc_base.specs.declared.memory.Form.TheVariants as form
use Rattle.sc_build.specs.Builds.{Builds, Refuses, IsMissing, IsTooLong, Asks}
use Rattle.sc_build.specs.declared.building.Built.{Built}
use Rattle.sc_object.specs.Spelling.{spelled}
use Rattle.sc_object.specs.declared.object.Object.{Object}
use Rattle.sc_meaning.specs.Behaviour.{main_key}
use Rattle.sc_meaning.specs.Versions.{Text}
use Rattle.sc_outside.specs.Causes.{Rose}
use Rattle.sc_session_forms.specs.Forms.{are_sources}
use Rattle.sc_outside.specs.Stored.{FileMap}
use Rattle.sc_words.specs.declared.command.Command.{Command}
use Rattle.sc_words.specs.declared.command.Command.TheVariants as command
use Rattle.sc_words.specs.declared.answer.Answer.{Answer}
use Rattle.sc_words.specs.declared.answer.Answer.TheVariants as answer
use Rattle.sc_words.specs.declared.denied.Area.{Area}
use Rattle.sc_words.specs.declared.denied.Denied.{Denied}
use Rattle.sc_words.specs.declared.denied.Denied.TheVariants as denied
use Rattle.sc_words.specs.declared.options.Options.{Options}
use Rattle.sc_words.specs.declared.stop.Walk.{Walk}
use Rattle.sc_words.specs.declared.stop.Walk.TheVariants as walk
use Rattle.sc_world.specs.declared.post.Unsent.{Unsent}
use Rattle.sc_session.specs.declared.choice.Choice.{Choice}
use Rattle.sc_session.specs.declared.choice.Choice.TheVariants as choice
use Rattle.sc_session.specs.declared.joining.Taken.{Taken}
use Rattle.sc_session.specs.declared.joining.Taken.TheVariants as taken
use Rattle.sc_session.specs.declared.limits.Limits.{Limits}
use Rattle.sc_session.specs.declared.linking.ImageFault.{ImageFault}
use Rattle.sc_session.specs.declared.linking.ImageFault.TheVariants as short
use Rattle.sc_session.specs.declared.state.State.{State}
use Rattle.sc_session.specs.declared.state.State.TheVariants as state
use Rattle.sc_session.specs.Changing.{at_rest, forgotten, stays, versions, with_modules}
use Rattle.sc_session.specs.Modules.{texts, object_named, present_of}
use Rattle.sc_session.specs.Plain.{Plain}
use Rattle.sc_session.specs.declared.present.Present.{Present}
use Rattle.sc_session.specs.States.{refusal_of}
use Rattle.sc_session.specs.Loading.{file_of, file_or, conflict, numbers_with, with_module, in_place, without}
use Rattle.sc_session.specs.Stopping.{Sets, without_stop}
use Rattle.sc_session.specs.Disassembling.{Disassembles}
use Rattle.sc_session.specs.Referring.{Describes, Locates}
use Rattle.sc_session.specs.Probing.{Drops, Reports, ShowsMachine}
use Rattle.sc_session.specs.Showing.{Lists}
use Rattle.sc_session.specs.Single.{CarriesOne}
use Rattle.sc_session.specs.Compiling.{Compiles, object_file}
use Rattle.sc_session.specs.Evaluating.{EvalFirst, Evaluates}
use Rattle.sc_session.specs.Going.{in_state, stays_in_line, has_main, IsInput, InputDenied, IsCutOff, IsGivenUp, Gains, WalkFirst, Begins, BeginFirst}
use Rattle.sc_session.specs.Linking.{HasRoom, LacksRoom, with_form}
use Rattle.sc_session.specs.Mixing.{is_mixed, Becomes, LacksImage, MixedBegins, Settles, ShowsCallsBy, ShowsValueBy, Unsettled, WalksBy, returned}
use Rattle.sc_session.specs.Swapping.{HasBytes, NotKept}

-- A session between two commands, what the files hold then where they tell it, and how often they have failed.
pub record Moment : Type 0 where
  pub session : Plain
  pub held : Option FileMap
  pub faults : ℕ

abbrev pub moment : Plain → Option FileMap → ℕ → Moment
moment session held faults = record { session = session; held = held; faults = faults }

-- what the options give the runs of a session
abbrev pub limits_of : Options → Limits
limits_of options = record { stack = options.stack; heap = options.heap; turns = options.turns }

-- the session that stands, with no module and so many probes, as it begins
abbrev pub empty : Limits → ℕ → Plain
empty limits probes = record {
  limits = limits;
  modules = [];
  past = [];
  come = 0;
  loaded = 0;
  numbers = [];
  stops = [];
  last = 0;
  state = state.Idle;
  evaluating = None;
  in_line = false;
  probes = probes;
  over = false;
}

-- the session is this one, and the files hold what they held
abbrev pub Leaves : Moment → Moment → Plain → Type 0
Leaves old new session = (new.session ≡ session) × (new.held ≡ old.held)

-- a command that looks at no file
abbrev pub SameFiles : Moment → Moment → Type 0
SameFiles old new = (new.held ≡ old.held) × (new.faults ≡ old.faults)

-- why a file gives no module: it cannot be read, or its text is refused
abbrev pub NotBuilt : Option FileMap → ℕ → ℕ → List ℕ → List ℕ → Denied → Type 0
NotBuilt held before now file name (denied.NoFile f) = (f ≡ file) × IsMissing held file
NotBuilt held before now file name (denied.TooLong f) = (f ≡ file) × IsTooLong held file
NotBuilt held before now file name (denied.FileFault f) = Asks held file f × Rose before now
NotBuilt held before now file name (denied.Translation r) = Refuses held file name r
NotBuilt held before now file name _ = ⊥

-- the same of what the code finds; nothing is said where no memory was left
abbrev pub Unbuilt : Option FileMap → ℕ → ℕ → List ℕ → List ℕ → Option Denied → Type 0
Unbuilt held before now file name None = Unit {0}
Unbuilt held before now file name (Some d) = NotBuilt held before now file name d

-- why a text does not go with the others, in a run with what the run has borne; and a module that was translated
abbrev pub text_conflict : Plain → Text → Option Denied
text_conflict session new = conflict (versions session) (texts session.modules) session.numbers new

abbrev pub conflicts : Plain → Built → Option Denied
conflicts session built = text_conflict session (present_of session.loaded built).text

-- the module of a file, which goes with the others
pub record Fits (old : Moment) (file name : List ℕ) (built : Built) : Type 0 where
  pub builds : Builds old.held file name built
  pub goes : conflicts old.session built ≡ None

-- The session with one module more, with one translated anew, and with one less. A run that stands at a stop stays, with a version more to
-- go through.
abbrev pub changed_to : Plain → ℕ → Present → List Present → Plain
changed_to session loaded new placed = record (with_modules placed session) { loaded = loaded; numbers = numbers_with session.numbers new.text.core }

abbrev pub joined : Plain → Built → Plain
joined session built =
    let new : Present = present_of session.loaded built in changed_to session (session.loaded + 1) new (with_module session.modules new)

abbrev pub replaced : Plain → Built → Plain
replaced session built =
    let new : Present = present_of session.loaded built in changed_to session (session.loaded + 1) new (in_place session.modules new)

abbrev pub unloaded : Plain → List ℕ → Plain
unloaded session name = with_modules (without name session.modules) session

-- the session in which a module has a form, and that object to run
abbrev pub swapped : Plain → List ℕ → Form → Choice → Plain
swapped session name f c = with_modules (with_form name f c session.modules) session

-- The session would be this one, but its run, which stays, has no room for that in its image.
abbrev pub LacksPlace : Plain → Denied → Type 0
LacksPlace changed (denied.Space a) = LacksImage changed a
LacksPlace changed d = ⊥

-- why the module of a file does not go with the others, where the session would be this one with it
abbrev pub Clashes : Moment → (Plain → Built → Plain) → List ℕ → List ℕ → Denied → Type 0
Clashes old changed file name d =
    (built : Built) × Builds old.held file name built × ((conflicts old.session built ≡ Some d) ⊎ LacksPlace (changed old.session built) d)

abbrev pub FileDenied : Moment → (Plain → Built → Plain) → List ℕ → List ℕ → ℕ → Denied → Type 0
FileDenied old changed file name now d = NotBuilt old.held old.faults now file name d ⊎ Clashes old changed file name d

-- the file of that object of the module is the object that the session keeps
abbrev pub IsKept : Moment → List ℕ → Choice → Type 0
IsKept old name c = (object : Object) × (object_named old.session.modules name c ≡ Some object) × HasBytes old.held (object_file name c) (spelled object)

-- Outside of a run the image of the modules has room or not. In one that stays it goes by all that was placed since its start: the run has that
-- image (`Becomes`), which is there only where no area lacks room (`IsImageOver`).
abbrev pub HasRoomBy : Bool → List Present → List Key → Type 0
HasRoomBy true modules numbers = Unit {0}
HasRoomBy false modules numbers = HasRoom modules numbers

abbrev pub LacksRoomBy : Bool → Plain → Area → Type 0
LacksRoomBy true changed a = LacksImage changed a
LacksRoomBy false changed a = LacksRoom changed.modules changed.numbers a

-- a module may have a form: any may be interpreted; the object of one that is not has to be in its file, and to have room
abbrev pub Allows : Moment → List ℕ → Form → Choice → Type 0
Allows old name form.Source c = Unit {0}
Allows old name form.Object c = IsKept old name c × HasRoomBy (stays old.session.state) (with_form name form.Object c old.session.modules) old.session.numbers

-- why it may not
abbrev pub SwapDenied : Moment → List ℕ → Choice → ℕ → Denied → Type 0
SwapDenied old name c now (denied.Space a) = IsKept old name c × LacksRoomBy (stays old.session.state) (swapped old.session name form.Object c) a
SwapDenied old name c now d =
    (object : Object) × (object_named old.session.modules name c ≡ Some object) × NotKept old.held (object_file name c) object old.faults now d

-- what is answered where it gets the form
abbrev pub swapped_said : List ℕ → Form → Choice → Answer
swapped_said name f choice.Plain = answer.Swapped name f
swapped_said name f choice.Fast = answer.SwappedFast name

-- The answers to `swap`. A module that is interpreted has the plain object to run, should it be compiled.
abbrev pub Swaps : Moment → List ℕ → Form → Choice → Answer → Moment → Type 0
Swaps old name f c (answer.Swapped m g) new =
    (c ≡ choice.Plain) × (m ≡ name) × (g ≡ f) × Allows old name f c × Becomes (swapped old.session name f c) new.session × (new.held ≡ old.held)
Swaps old name f c (answer.SwappedFast m) new =
    (c ≡ choice.Fast) × (m ≡ name) × Allows old name f c × Becomes (swapped old.session name f c) new.session × (new.held ≡ old.held)
Swaps old name f c (answer.Refused d) new = (f ≡ form.Object) × Leaves old new old.session × SwapDenied old name c new.faults d
Swaps old name f c answer.NoMemory new = Leaves old new old.session
Swaps old name f c _ new = ⊥

-- what is answered where a module does not get it
abbrev pub unformed : Form → ImageFault → Answer
unformed form.Source f = answer.NoMemory
unformed form.Object (short.Space a) = answer.Refused (denied.Space a)
unformed form.Object short.NoMemory = answer.NoMemory

-- the same of a module whose file is its object
abbrev pub Reforms : Plain → List ℕ → Choice → Answer → Plain → Type 0
Reforms session name c (answer.Swapped m g) new =
    (c ≡ choice.Plain) × (m ≡ name) × (g ≡ form.Object) × HasRoomBy (stays session.state) (with_form name form.Object c session.modules) session.numbers × Becomes (swapped session name form.Object c) new
Reforms session name c (answer.SwappedFast m) new =
    (c ≡ choice.Fast) × (m ≡ name) × HasRoomBy (stays session.state) (with_form name form.Object c session.modules) session.numbers × Becomes (swapped session name form.Object c) new
Reforms session name c (answer.Refused (denied.Space a)) new = (new ≡ session) × LacksRoomBy (stays session.state) (swapped session name form.Object c) a
Reforms session name c answer.NoMemory new = new ≡ session
Reforms session name c _ new = ⊥

-- the answers to `unload`
abbrev pub Unloads : Plain → List ℕ → Answer → Plain → Type 0
Unloads session name (answer.Unloaded m) new = (m ≡ name) × Becomes (unloaded session name) new
Unloads session name answer.NoMemory new = new ≡ session
Unloads session name _ new = ⊥

-- the answers to `load`, of a module in this file
abbrev pub Loads : Moment → List ℕ → List ℕ → Answer → Moment → Type 0
Loads old name file (answer.Loaded m) new =
    (m ≡ name) × ((built : Built) × Fits old file name built × Becomes (joined old.session built) new.session × (new.held ≡ old.held))
Loads old name file (answer.Refused d) new = Leaves old new old.session × FileDenied old joined file name new.faults d
Loads old name file answer.NoMemory new = Leaves old new old.session
Loads old name file _ new = ⊥

-- the answers to `edit`, by this file
abbrev pub Edits : Moment → List ℕ → List ℕ → Answer → Moment → Type 0
Edits old name file (answer.Edited m) new =
    (m ≡ name) × ((built : Built) × Fits old file name built × Becomes (replaced old.session built) new.session × (new.held ≡ old.held))
Edits old name file (answer.Refused d) new = Leaves old new old.session × FileDenied old replaced file name new.faults d
Edits old name file answer.NoMemory new = Leaves old new old.session
Edits old name file _ new = ⊥

-- a module gets a form where nothing speaks against it
abbrev pub Forms : Plain → List ℕ → Form → Choice → Answer → Plain → Type 0
Forms session name f c (answer.Swapped m g) new = (c ≡ choice.Plain) × (m ≡ name) × (g ≡ f) × Becomes (swapped session name f c) new
Forms session name f c (answer.SwappedFast m) new = (c ≡ choice.Fast) × (m ≡ name) × Becomes (swapped session name f c) new
Forms session name f c (answer.Refused (denied.Space a)) new = (f ≡ form.Object) × (stays session.state ≡ true) × LacksImage (swapped session name f c) a × (new ≡ session)
Forms session name f c answer.NoMemory new = new ≡ session
Forms session name f c _ new = ⊥

-- what became of a text that has this number of a next one behind it, where the modules are placed so with it
abbrev pub Changes : Plain → ℕ → Present → List Present → Taken → Plain → Type 0
Changes session loaded new placed taken.Joined after = (text_conflict session new.text ≡ None) × Becomes (changed_to session loaded new placed) after
Changes session loaded new placed (taken.Denied d) after = ((text_conflict session new.text ≡ Some d) ⊎ LacksPlace (changed_to session loaded new placed) d) × (after ≡ session)
Changes session loaded new placed taken.NoMemory after = after ≡ session

-- the modules have changed, and the session is closed behind that; or all is as it was kept
abbrev pub Finishes : Plain → List Present → ℕ → ℕ → Bool → Result (Unit {0}) ImageFault → Plain → Type 0
Finishes session back before n stayed (Ok t) new = Settles stayed session new
Finishes session back before n stayed (Err f) new = Unsettled stayed session f × (new ≡ returned back before n session)

abbrev pub said_of : ImageFault → Taken
said_of (short.Space a) = taken.Denied (denied.Space a)
said_of short.NoMemory = taken.NoMemory

-- what became of it, as a text was taken among the modules or not
abbrev pub Closes : Plain → List Present → ℕ → ℕ → Bool → ℕ → Taken → Taken → Plain → Type 0
Closes session back before n stayed loaded taken.Joined said new =
    ((said ≡ taken.Joined) × Settles stayed (record session { loaded = loaded }) new)
    ⊎ ((f : ImageFault) × Unsettled stayed session f × (said ≡ said_of f) × (new ≡ returned back before n session))
Closes session back before n stayed loaded (taken.Denied d) said new = (said ≡ taken.Denied d) × (new ≡ record session { past = take before session.past })
Closes session back before n stayed loaded taken.NoMemory said new = (said ≡ taken.NoMemory) × (new ≡ record session { past = take before session.past })

-- what became of a module that was translated
abbrev pub Joins : Plain → Built → Taken → Plain → Type 0
Joins old built taken.Joined new = (conflicts old built ≡ None) × Becomes (joined old built) new
Joins old built (taken.Denied d) new = ((conflicts old built ≡ Some d) ⊎ LacksPlace (joined old built) d) × (new ≡ old)
Joins old built taken.NoMemory new = new ≡ old

-- and of one that was translated anew
abbrev pub TakesPlace : Plain → Built → Taken → Plain → Type 0
TakesPlace old built taken.Joined new = (conflicts old built ≡ None) × Becomes (replaced old built) new
TakesPlace old built (taken.Denied d) new = ((conflicts old built ≡ Some d) ⊎ LacksPlace (replaced old built) d) × (new ≡ old)
TakesPlace old built taken.NoMemory new = new ≡ old

-- why `run` is refused
abbrev pub RunDenied : Moment → Option (List ℕ) → ℕ → Denied → Type 0
RunDenied old file faults denied.NoMain = has_main (texts old.session.modules) ≡ false
RunDenied old file faults d = (has_main (texts old.session.modules) ≡ true) × InputDenied old.held file old.faults faults d

-- the first bytes that the program writes as it is run so
abbrev pub RunFirst : Moment → Option (List ℕ) → List ℕ → Type 0
RunFirst old file front = (has_main (texts old.session.modules) ≡ true) × ((bytes : List ℕ) × IsInput old.held file bytes × BeginFirst old.session main_key bytes front)

-- the answers to `run` behind these bytes, which went out
abbrev pub Runs : Moment → Option (List ℕ) → List ℕ → Answer → Moment → Type 0
Runs old file front (answer.Ran text) new = (new.held ≡ old.held) × (has_main (texts old.session.modules) ≡ true)
    × ((bytes : List ℕ) × IsInput old.held file bytes × Begins old.session main_key bytes front text new.session)
Runs old file front (answer.Refused d) new = (front ≡ []) × Leaves old new old.session × RunDenied old file new.faults d
Runs old file front answer.NoMemory new = (new.held ≡ old.held) × IsCutOff (RunFirst old file) old.session front new.session
Runs old file front _ new = ⊥

-- what comes of it
abbrev pub RunsOut : Option (List ℕ) → Option (List ℕ) → Moment → Option (List ℕ) → Result Answer Unsent → Moment → Type 0
RunsOut sink gained old file (Ok said) new = Gains sink gained (λ front. Runs old file front said new)
RunsOut sink gained old file (Err e) new = Gains sink gained (λ front. RunFirst old file front)

-- the answers to `run` of a program that has modules in object form
abbrev pub MixedRuns : Moment → Option (List ℕ) → Answer → Moment → Type 0
MixedRuns old file (answer.Ran text) new = (new.held ≡ old.held) × (has_main (texts old.session.modules) ≡ true)
    × ((bytes : List ℕ) × IsInput old.held file bytes × MixedBegins old.session main_key bytes (answer.Ran text) new.session)
MixedRuns old file (answer.Refused d) new = Leaves old new old.session × RunDenied old file new.faults d
MixedRuns old file answer.NoMemory new = (new.held ≡ old.held) × IsGivenUp old.session new.session
MixedRuns old file _ new = ⊥

-- the same by whether all modules are interpreted
abbrev pub RunsBy : Bool → Moment → Option (List ℕ) → List ℕ → Answer → Moment → Type 0
RunsBy true old file front said new = Runs old file front said new
RunsBy false old file front said new = (front ≡ []) × MixedRuns old file said new

-- and what comes of it
abbrev pub RunsOutBy : Bool → Option (List ℕ) → Option (List ℕ) → Moment → Option (List ℕ) → Result Answer Unsent → Moment → Type 0
RunsOutBy b sink gained old file (Ok said) new = Gains sink gained (λ front. RunsBy b old file front said new)
RunsOutBy b sink gained old file (Err e) new = Gains sink gained (λ front. RunFirst old file front)

-- what comes of a go of a session's run: an answer behind what went out, or a write that failed
abbrev pub WalksOutBy : Bool → Option (List ℕ) → Option (List ℕ) → Plain → Walk → Result Answer Unsent → Plain → Type 0
WalksOutBy b sink gained session how (Ok said) new = Gains sink gained (λ front. WalksBy b session how front said new)
WalksOutBy b sink gained session how (Err e) new = Gains sink gained (λ front. WalkFirst session how front)

-- The answer to a command that is not refused before it is carried out and lets no program go on, and the session after it.
abbrev pub Does : Moment → Command → Answer → Moment → Type 0
Does old command.Nothing said new = (said ≡ answer.Silent) × (new ≡ old)
Does old (command.Load name) said new = Loads old name (file_of name) said new
Does old (command.Unload name) said new = Unloads old.session name said new.session × SameFiles old new
Does old (command.Swap name form) said new = Swaps old name form choice.Plain said new
Does old (command.SwapFast name) said new = Swaps old name form.Object choice.Fast said new
Does old (command.Edit name file) said new = Edits old name (file_or name file) said new
Does old (command.Compile name) said new = (new.session ≡ old.session) × Compiles old.session old.held old.faults name choice.Plain said new.held new.faults
Does old (command.CompileFast name) said new = (new.session ≡ old.session) × Compiles old.session old.held old.faults name choice.Fast said new.held new.faults
Does old (command.Stop p) said new = Sets old.session p said new.session × SameFiles old new
Does old (command.Delete k) said new = (said ≡ answer.Deleted k) × (new.session ≡ without_stop k old.session) × SameFiles old new
Does old command.Frames said new = ShowsCallsBy (is_mixed old.session.state) old.session said × (new ≡ old)
Does old (command.Print name) said new = ShowsValueBy (is_mixed old.session.state) old.session name said × (new ≡ old)
Does old command.Machine said new = ShowsMachine said × (new ≡ old)
Does old (command.Disas home fun) said new = Disassembles old.session home fun said × (new ≡ old)
Does old (command.Xref name) said new = Locates old.session name said × (new ≡ old)
Does old (command.Whatis name) said new = Describes old.session name said × (new ≡ old)
Does old command.List said new = Lists old.session said × (new ≡ old)
Does old (command.Report k) said new = Reports k said × (new ≡ old)
Does old (command.Drop k) said new = Drops k old.session said new.session × SameFiles old new
Does old command.Reset said new = (said ≡ answer.Reset) × (new.session ≡ at_rest old.session) × SameFiles old new
Does old command.Quit said new = (said ≡ answer.Bye) × (new.session ≡ record old.session { over = true }) × SameFiles old new
Does old _ said new = ⊥

-- The answer to a command that is not refused before it is carried out, behind the bytes of the program that went out meanwhile, and
-- the session after it.
abbrev pub Carried : Moment → Command → List ℕ → Answer → Moment → Type 0
Carried old (command.Run file) front said new = RunsBy (are_sources (texts old.session.modules)) old file front said new
Carried old (command.Eval name line) front said new = Evaluates old.session name line front said new.session × SameFiles old new
Carried old command.Step front said new = WalksBy (is_mixed old.session.state) old.session walk.Step front said new.session × SameFiles old new
Carried old command.Next front said new = WalksBy (is_mixed old.session.state) old.session walk.Next front said new.session × SameFiles old new
Carried old command.Cont front said new = WalksBy (is_mixed old.session.state) old.session walk.Cont front said new.session × SameFiles old new
Carried old command.StepOne front said new = (front ≡ []) × CarriesOne old.session said new.session × SameFiles old new
Carried old c front said new = (front ≡ []) × Does old c said new

-- a run that ended is forgotten as `run` is asked for, whether it is refused or not
abbrev pub asked : Command → Plain → Plain
asked (command.Run file) session = forgotten session
asked _ session = session

-- a refused command leaves the session, and the files are not looked at
abbrev pub Decides : Option Denied → Moment → Command → List ℕ → Answer → Moment → Type 0
Decides (Some d) old c front said new = (front ≡ []) × (said ≡ answer.Refused d) × (new ≡ old)
Decides None old c front said new = Carried old c front said new

-- The answer to a command of a session that is not over, behind the bytes of the program that went out meanwhile, and the session after it.
abbrev pub AnswersTo : Moment → Command → List ℕ → Answer → Moment → Type 0
AnswersTo old c front said new =
    Decides (refusal_of (asked c old.session) c) (moment (asked c old.session) old.held old.faults) c front said new

-- a command that lets the program go on
abbrev pub is_go : Command → Bool
is_go (command.Run file) = true
is_go (command.Eval name line) = true
is_go command.Step = true
is_go command.Next = true
is_go command.Cont = true
is_go command.StepOne = true
is_go _ = false

-- the first bytes that the program writes as a command lets it go on
abbrev pub WritesFirst : Moment → Command → List ℕ → Type 0
WritesFirst old (command.Run file) front = RunFirst old file front
WritesFirst old (command.Eval name line) front = EvalFirst old.session name line front
WritesFirst old command.Step front = WalkFirst old.session walk.Step front
WritesFirst old command.Next front = WalkFirst old.session walk.Next front
WritesFirst old command.Cont front = WalkFirst old.session walk.Cont front
WritesFirst old _ front = ⊥

-- what comes of one that is not refused
abbrev pub GoesOut : Option (List ℕ) → Option (List ℕ) → Moment → Command → Result Answer Unsent → Moment → Type 0
GoesOut sink gained old c (Ok said) new = Gains sink gained (λ front. Carried old c front said new)
GoesOut sink gained old c (Err e) new = Gains sink gained (λ front. WritesFirst old c front)

-- a refused command lets no program go on
abbrev pub GoFirst : Moment → Command → List ℕ → Type 0
GoFirst old c front =
    (refusal_of (asked c old.session) c ≡ None) × WritesFirst (moment (asked c old.session) old.held old.faults) c front

-- The answer behind what the sink gained meanwhile. A command that lets no program go on sends nothing.
abbrev pub Speaks : Option (List ℕ) → Option (List ℕ) → Moment → Command → Answer → Moment → Type 0
Speaks sink gained old c said new = Gains sink gained (λ front. AnswersTo old c front said new × (is_go c ≡ false → front ≡ []))

-- The program's bytes could not be written: the sink has the first of them, and the files hold what they held.
abbrev pub BreaksOff : Option (List ℕ) → Option (List ℕ) → Moment → Command → Option FileMap → Type 0
BreaksOff sink gained old c held = (held ≡ old.held) × Gains sink gained (λ front. GoFirst old c front)

-- Whether a line is open behind an answer, where one was open before it: the text of a probe may end within one, and any other answer ends
-- its line.
abbrev pub is_open : Bool → Answer → Bool
is_open within answer.Silent = within
is_open within (answer.Reported k text) = stays_in_line false text
is_open within _ = false

-- nothing is answered
abbrev pub is_silent : Answer → Bool
is_silent answer.Silent = true
is_silent _ = false

-- the session behind an answer that was given
abbrev pub told : Answer → Plain → Plain
told said session = record session { in_line = is_open session.in_line said }
