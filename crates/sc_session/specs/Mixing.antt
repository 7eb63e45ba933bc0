-- Machine: the program once more; a theorem ties it to a yardstick (docs/TRUST.md).
-- What a session answers as a run of both forms goes on, what a change of the modules makes of a run that stands at a stop, and what is shown
-- of a run of both forms. How such a run goes on and changes is said where it is defined (sc_mixed).
use Rattle.std.specs.Prelude.{◌≡◌, ℕ, Bool, true, false, not, List, [], ◌∷◌, take, Option, Some, None}
use Rattle.sc_core_names.specs.declared.table.Scopes.{Scopes}
use Rattle.sc_interp_world.specs.Outputs.{output}
use Rattle.sc_isa_image.specs.declared.image.Image.{Image}
use Rattle.sc_base.specs.declared.key.Key.{Key}
use Rattle.sc_meaning.specs.Versions.{Text}
use Rattle.sc_meaning.specs.World.{World, Frame}
use Rattle.sc_mixed.specs.Changing.{Changes, IsTakenFrom}
use Rattle.sc_mixed.specs.Standing.{Standing, declaring_at}
use Rattle.sc_mixed.specs.Starting.{Starts}
use Rattle.sc_session_forms.specs.Calls.{call_lines, source_calls}
use Rattle.sc_session_forms.specs.Forms.{are_sources}
use Rattle.sc_session_forms.specs.Halts.{MixedGone}
use Rattle.sc_session_show.specs.Visible.{print_line_in}
use Rattle.sc_words.specs.declared.answer.Answer.{Answer}
use Rattle.sc_words.specs.declared.answer.Answer.TheVariants as answer
use Rattle.sc_words.specs.declared.denied.Area.{Area}
use Rattle.sc_words.specs.declared.denied.Denied.TheVariants as denied
use Rattle.sc_words.specs.declared.stop.StopAt.{StopAt}
use Rattle.sc_words.specs.declared.stop.Walk.{Walk}
use Rattle.sc_words.specs.declared.stop.Walk.TheVariants as walk
use Rattle.sc_world.specs.Standing.{Standing as Alone}
use Rattle.sc_world.specs.declared.halt.Halt.{Halt}
use Rattle.sc_world.specs.declared.halt.Halt.TheVariants as halt
use Rattle.sc_session.specs.declared.linking.ImageFault.{ImageFault}
use Rattle.sc_session.specs.declared.linking.ImageFault.TheVariants as short
use Rattle.sc_session.specs.declared.listing.Sight.{Sight}
use Rattle.sc_session.specs.declared.present.Present.{Present}
use Rattle.sc_session.specs.declared.state.State.{State}
use Rattle.sc_session.specs.declared.state.State.TheVariants as state
use Rattle.sc_session.specs.Changing.{at_rest, caught_up, compiled_held, scopes_held, texts_held, versions_left}
use Rattle.sc_session.specs.Going.{IsGivenUp, Walks, in_state}
use Rattle.sc_session.specs.Linking.{IsImage}
use Rattle.sc_session.specs.Modules.{texts}
use Rattle.sc_session.specs.Placing.{IsImageOver, LacksRoomOver}
use Rattle.sc_session.specs.Plain.{Plain}
use Rattle.sc_session.specs.Showing.{ShowsCalls, ShowsValue, sight_of}
use Rattle.sc_session.specs.Valued.{going_stops, going_texts, is_valued}

-- a run of both forms goes on in a state
abbrev pub is_mixed : State → Bool
is_mixed (state.StoppedMixed w) = true
is_mixed (state.PausedMixed w) = true
is_mixed _ = false

-- where it stands
abbrev pub MixedIn : State → Standing → Type 0
MixedIn (state.StoppedMixed m) n = n ≡ m
MixedIn (state.PausedMixed m) n = n ≡ m
MixedIn _ n = ⊥

-- a run goes on, of interpreted modules or of both forms
abbrev pub IsActive : State → Type 0
IsActive state.Idle = ⊥
IsActive state.Ended = ⊥
IsActive _ = Unit {0}

-- ---- a change of the modules

-- a run of interpreted modules goes on as one, or as one of both forms over such an image, where some module has object form
abbrev pub GoesOver : (Image → Type 0) → Bool → Option Alone → State → Type 0
GoesOver Is true r s = s ≡ state.Stopped r
GoesOver Is false r s = (i : Image) × (m : Standing) × Is i × IsTakenFrom r i m × (s ≡ state.StoppedMixed m)

-- what a run becomes that stands at a stop as the modules change, by whether all of them are interpreted then; a run of both forms goes on
-- over another such image
abbrev pub Relinks : (Image → Type 0) → Bool → State → State → Type 0
Relinks Is b (state.Stopped r) s = GoesOver Is b r s
Relinks Is b (state.StoppedMixed m) s = (i : Image) × Is i × (s ≡ state.StoppedMixed (record m { image = i }))
Relinks Is b state.Idle s = s ≡ state.Idle
Relinks Is b (state.Paused r) s = s ≡ state.Paused r
Relinks Is b (state.PausedMixed m) s = s ≡ state.PausedMixed m
Relinks Is b state.Ended s = s ≡ state.Ended

abbrev pub BecomesOver : (Image → Type 0) → Bool → Plain → Plain → Type 0
BecomesOver Is b session new = (s : State) × Relinks Is b session.state s × (new ≡ in_state s session)

-- the session is this one, but for the image of its run: that is the one of all that is placed, linked from scratch
abbrev pub BecomesBy : Bool → Plain → Plain → Type 0
BecomesBy b session new = BecomesOver (IsImageOver session.past session.modules session.numbers) b session new

abbrev pub Becomes : Plain → Plain → Type 0
Becomes session new = BecomesBy (are_sources (texts session.modules)) session new

abbrev pub needs_image : Bool → State → Bool
needs_image b (state.Stopped r) = not b
needs_image b (state.StoppedMixed m) = true
needs_image b _ = false

-- The modules have changed: where no run stays there is none any more.
abbrev pub Settles : Bool → Plain → Plain → Type 0
Settles true session new = Becomes session new
Settles false session new = new ≡ at_rest session

-- a run that stays has to go over to an image, by whether all modules are interpreted
abbrev pub NeedsImage : Bool → State → Type 0
NeedsImage b s = needs_image b s ≡ true

-- why it does not: this area is the first that has no room for what its modules place; or no memory was left
abbrev pub LacksImage : Plain → Area → Type 0
LacksImage session a = NeedsImage (are_sources (texts session.modules)) session.state × LacksRoomOver session.past session.modules session.numbers a

abbrev pub IsUnlinked : Plain → ImageFault → Type 0
IsUnlinked session (short.Space a) = LacksImage session a
IsUnlinked session short.NoMemory = Unit {0}

abbrev pub Unsettled : Bool → Plain → ImageFault → Type 0
Unsettled true session f = IsUnlinked session f
Unsettled false session f = ⊥

-- the session in which the modules are those that were kept, as before a change
abbrev pub returned : List Present → ℕ → ℕ → Plain → Plain
returned modules before n session = record session { modules = modules; past = take before session.past; numbers = take n session.numbers }

-- a run of some texts goes through later versions of them, one after the other
abbrev pub MixedThrough : List Text → List (List Text) → Standing → Standing → Type 0
MixedThrough old [] m n = n ≡ m
MixedThrough old (new ∷ later) m n = (mid : Standing) × Changes old new m mid × MixedThrough new later mid n

abbrev pub MixedGoneThrough : List (List Text) → Standing → Standing → Type 0
MixedGoneThrough [] m n = n ≡ m
MixedGoneThrough (first ∷ later) m n = MixedThrough first later m n

-- a session's run of both forms, behind the changes that wait for it, is taken out of the session
abbrev pub TakesMixed : Plain → Standing → Plain → Type 0
TakesMixed session n new = ((m : Standing) × MixedIn session.state m × MixedGoneThrough (versions_left session) m n) × (new ≡ in_state state.Ended session)

-- ---- a go

-- the state behind a go that halted so, where the run stands here
abbrev pub mixed_state : Halt → Standing → State
mixed_state halt.Entered m = state.StoppedMixed m
mixed_state halt.AtLine m = state.StoppedMixed m
mixed_state halt.Ended m = state.Ended
mixed_state (halt.Paused turns) m = state.PausedMixed m

-- A go of a session's run of both forms by a walk, from where it stands, with the text that answers it, and the session behind it: the
-- machine of such runs halts there and so. Nothing goes out before the answer.
pub record MixedWent (session : Plain) (how : Walk) (old : Standing) (text : List ℕ) (new : Plain) : Type 0 where
  pub halts : Halt
  pub stands : Standing
  pub gone : MixedGone (going_texts session) (going_stops session) how session.limits.turns (is_valued session) old halts stands text
  pub follows : new ≡ in_state (mixed_state halts stands) (caught_up session)

-- the answer to a go of a session whose run of both forms, which stood there, was taken out of it, by these texts and stops
abbrev pub MixedGoes : Plain → List Text → List StopAt → Walk → Standing → Answer → Plain → Type 0
MixedGoes session modules stops how m (answer.Ran text) new =
    (h : Halt) × (n : Standing) × MixedGone modules stops how session.limits.turns (is_valued session) m h n text × (new ≡ in_state (mixed_state h n) (caught_up session))
MixedGoes session modules stops how m answer.NoMemory new = new ≡ session
MixedGoes session modules stops how m _ new = ⊥

-- the answers to `step`, `next` and `cont` of a run of both forms: it goes through the changes that wait for it, and on from there
abbrev pub MixedWalks : Plain → Walk → Answer → Plain → Type 0
MixedWalks session how (answer.Ran text) new = (m : Standing) × MixedIn session.state m
    × ((n : Standing) × MixedGoneThrough (versions_left session) m n × MixedWent session how n text new)
MixedWalks session how answer.NoMemory new = IsGivenUp session new
MixedWalks session how _ new = ⊥

-- the same of either run
abbrev pub WalksBy : Bool → Plain → Walk → List ℕ → Answer → Plain → Type 0
WalksBy false session how front said new = Walks session how front said new
WalksBy true session how front said new = (front ≡ []) × MixedWalks session how said new

-- a run of both forms with this input, at its start by a call of the function with this key, in the image of the modules, before which nothing was written
pub record MixedStarts (session : Plain) (key : Key) (bytes : List ℕ) (m : Standing) : Type 0 where
  pub image : Image
  pub links : IsImage session.modules session.numbers image
  pub starts : Starts (going_texts session) image key session.limits.stack session.limits.heap bytes m
  pub empty : output m.world.trail ≡ []

-- It goes from its start on. The modules were found to have room as they were loaded, or as they got their forms.
abbrev pub MixedBegins : Plain → Key → List ℕ → Answer → Plain → Type 0
MixedBegins session key bytes (answer.Ran text) new = (m : Standing) × MixedStarts session key bytes m × MixedWent session walk.Cont m text new
MixedBegins session key bytes answer.NoMemory new = IsGivenUp session new
MixedBegins session key bytes _ new = ⊥

-- ---- what is shown

-- the answers to `where`
abbrev pub MixedTellsCalls : List (List Present) → List Present → World → Answer → Type 0
MixedTellsCalls past modules w (answer.Shown lines) = lines ≡ call_lines (texts_held past modules) (compiled_held past modules) w.frames
MixedTellsCalls past modules w answer.NoMemory = Unit {0}
MixedTellsCalls past modules w _ = ⊥

-- what the name stands for that `print` asks for: in the innermost interpreted call
abbrev pub value_by : Sight → Option Scopes → Option ℕ → World → List ℕ → Frame → Option (List ℕ)
value_by sight None declaring w name f = None
value_by sight (Some scopes) declaring w name f = print_line_in sight.held sight.present sight.waiting scopes declaring w name f

abbrev pub value_among : Sight → List (List Present) → List Present → Option ℕ → World → List ℕ → List Frame → Option (List ℕ)
value_among sight past modules declaring w name [] = None
value_among sight past modules declaring w name (f ∷ frames) = value_by sight (scopes_held past modules f.text) declaring w name f

-- the answers to `print`, where a value is or is not there
abbrev pub TellsLine : Option (List ℕ) → List ℕ → Answer → Type 0
TellsLine found name (answer.Shown line) = found ≡ Some line
TellsLine found name (answer.Refused d) = (d ≡ denied.NotVisible name) × (found ≡ None)
TellsLine found name answer.NoMemory = Unit {0}
TellsLine found name _ = ⊥

abbrev pub MixedTellsValue : Sight → List (List Present) → List Present → Option ℕ → World → List ℕ → Answer → Type 0
MixedTellsValue sight past modules declaring w name said = TellsLine (value_among sight past modules declaring w name (source_calls w.frames)) name said

-- so does a session of the run of both forms that goes on in it
abbrev pub MixedShowsCalls : Plain → Answer → Type 0
MixedShowsCalls session said = (m : Standing) × MixedIn session.state m × MixedTellsCalls session.past session.modules m.world said

abbrev pub MixedShowsValue : Plain → List ℕ → Answer → Type 0
MixedShowsValue session name said = (m : Standing) × MixedIn session.state m × MixedTellsValue (sight_of session) session.past session.modules (declaring_at m.course) m.world name said

-- the same of either run
abbrev pub ShowsCallsBy : Bool → Plain → Answer → Type 0
ShowsCallsBy false session said = ShowsCalls session said
ShowsCallsBy true session said = MixedShowsCalls session said

abbrev pub ShowsValueBy : Bool → Plain → List ℕ → Answer → Type 0
ShowsValueBy false session name said = ShowsValue session name said
ShowsValueBy true session name said = MixedShowsValue session name said
