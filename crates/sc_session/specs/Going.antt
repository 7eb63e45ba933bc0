-- Yardstick: to be compared with what it restates (docs/TRUST.md).
-- What a run answers that begins or goes on, and how the session stands behind it.
use Rattle.std.specs.Io.KnownBytes.{Appends}
use Rattle.std.specs.Prelude.{◌≡◌, ◌≢◌, ◌<◌, ◌≤◌, ◌⊎◌, ℕ, ◌+◌, ◌-◌, ◌==◌, not, Bool, true, false, List, [], ◌++◌, length, take, drop, slice_get, Option, Some, None, Result, Ok, Err}
use Rattle.sc_base.specs.declared.key.Key.{Key}
use Rattle.sc_meaning.specs.Behaviour.{Start, main_key}
use Rattle.sc_meaning.specs.Versions.{Text, Callee, callee_of, Missing}
use Rattle.sc_meaning.specs.World.{World}
use Rattle.sc_outside.specs.Causes.{Rose}
use Rattle.sc_outside.specs.Stored.{FileMap, FindsTold}
use Rattle.sc_outside.specs.declared.files.FileGot.{FileGot}
use Rattle.sc_outside.specs.declared.files.FileGot.TheVariants as got
use Rattle.sc_interp.specs.Ends.{start_of}
use Rattle.sc_interp_access.specs.declared.ended.Ended.{Ended}
use Rattle.sc_interp_access.specs.declared.ended.Ended.TheVariants as ended
use Rattle.sc_interp_world.specs.Outputs.{output}
use Rattle.sc_session_texts.specs.Ends.{entered_text, line_text, outcome_text, stop_text, on_new_line}
use Rattle.sc_words.specs.declared.answer.Answer.{Answer}
use Rattle.sc_words.specs.declared.answer.Answer.TheVariants as answer
use Rattle.sc_words.specs.declared.denied.Denied.{Denied}
use Rattle.sc_words.specs.declared.denied.Denied.TheVariants as denied
use Rattle.sc_words.specs.declared.stop.StopAt.{StopAt}
use Rattle.sc_words.specs.declared.stop.Walk.{Walk}
use Rattle.sc_words.specs.declared.stop.Walk.TheVariants as walk
use Rattle.sc_world.specs.declared.halt.Halt.{Halt}
use Rattle.sc_world.specs.declared.halt.Halt.TheVariants as halt
use Rattle.sc_world.specs.declared.post.Unsent.{Unsent}
use Rattle.sc_world.specs.declared.post.Unsent.TheVariants as unsent
use Rattle.sc_world.specs.Goes.{Goes, started}
use Rattle.sc_world.specs.Meant.{IsRunOf}
use Rattle.sc_world.specs.Sends.{SendsSome}
use Rattle.sc_world.specs.Standing.{Standing, world_in, world_of, EndedSo}
use Rattle.sc_session.specs.declared.going.Lost.{Lost}
use Rattle.sc_session.specs.declared.going.Lost.TheVariants as lost
use Rattle.sc_session.specs.declared.input.Input.{Input}
use Rattle.sc_session.specs.declared.input.Input.TheVariants as input
use Rattle.sc_session.specs.declared.state.State.{State}
use Rattle.sc_session.specs.declared.state.State.TheVariants as state
use Rattle.sc_session.specs.Changing.{caught_up, settled}
use Rattle.sc_session.specs.Plain.{Plain}
use Rattle.sc_session.specs.Valued.{going_stops, going_texts, is_valued}

-- the same session in another state
abbrev pub in_state : State → Plain → Plain
in_state s session = record session { state = s }

abbrev pub is_found : Callee → Bool
is_found Missing = false
is_found _ = true

-- whether a module defines `main`, with external linkage
abbrev pub has_main : List Text → Bool
has_main modules = is_found (callee_of modules main_key)

-- The input of a run: the bytes of the file, or none.
abbrev pub AreBytes : List ℕ → FileGot → Type 0
AreBytes bytes (got.Bytes v) = v.items ≡ bytes
AreBytes bytes _ = ⊥

abbrev pub IsInput : Option FileMap → Option (List ℕ) → List ℕ → Type 0
IsInput held None bytes = bytes ≡ []
IsInput held (Some file) bytes = (g : FileGot) × FindsTold held file g × AreBytes bytes g

-- Why there is no input: the file is missing, is too long, or could not be read.
abbrev pub Unread : Option FileMap → List ℕ → ℕ → ℕ → Denied → Type 0
Unread held file before now (denied.NoFile f) = (f ≡ file) × FindsTold held file got.Missing
Unread held file before now (denied.TooLong f) = (f ≡ file) × FindsTold held file got.TooLong
Unread held file before now (denied.FileFault f) = (f ≡ file) × Rose before now
Unread held file before now _ = ⊥

abbrev pub InputDenied : Option FileMap → Option (List ℕ) → ℕ → ℕ → Denied → Type 0
InputDenied held None before now d = ⊥
InputDenied held (Some file) before now d = Unread held file before now d

-- the input as the code finds it
abbrev pub Finds : Option FileMap → Option (List ℕ) → ℕ → ℕ → Input → Type 0
Finds held file before now (input.Bytes bytes) = IsInput held file bytes
Finds held file before now (input.Denied d) = InputDenied held file before now d
Finds held file before now input.NoMemory = Unit {0}

-- the world in which a run stands
abbrev pub IsWorldOf : Option Standing → World → Type 0
IsWorldOf r w = (v : World) → world_in r ≡ Some v → w ≡ v

-- what is said of where a run halted, by whether it is an evaluation
abbrev pub Says : Bool → Halt → Option Standing → World → List ℕ → Type 0
Says valued halt.Entered r w said = said ≡ entered_text w.frames
Says valued halt.AtLine r w said = said ≡ line_text w.frames
Says valued halt.Ended r w said = (e : Ended) × EndedSo r e × (Some said ≡ outcome_text valued e w)
Says valued (halt.Paused turns) r w said = Some said ≡ stop_text turns ended.OutOfSteps w

-- the text on a go that halted so: what the program wrote in it, behind so many bytes before, and on a line of its own where the
-- run halted
pub record Told (valued : Bool) (before : ℕ) (h : Halt) (r : Option Standing) (text : List ℕ) : Type 0 where
  pub world : World
  pub stands : IsWorldOf r world
  pub said : List ℕ
  pub says : Says valued h r world said
  pub whole : text ≡ on_new_line (drop before (output world.trail)) said

-- the same, where the bytes behind the first place and before the second went out in the go: what is left of the text
pub record ToldBehind (valued : Bool) (before sent : ℕ) (h : Halt) (r : Option Standing) (text : List ℕ) : Type 0 where
  pub world : World
  pub stands : IsWorldOf r world
  pub said : List ℕ
  pub says : Says valued h r world said
  pub whole : (front : List ℕ) → drop before (output world.trail) ≡ front ++ drop sent (output world.trail) → front ++ text ≡ on_new_line (drop before (output world.trail)) said

-- the state behind a go
abbrev pub state_after : Halt → Option Standing → State
state_after halt.Entered r = state.Stopped r
state_after halt.AtLine r = state.Stopped r
state_after halt.Ended r = state.Ended
state_after (halt.Paused turns) r = state.Paused r

-- Where a go halts before the run is over, fewer than 4,096 of the bytes that the program wrote did not go out: this many were
-- written before the go, and these went out in it.
abbrev pub KeepsFew : Halt → ℕ → List ℕ → Option Standing → Type 0
KeepsFew h before front r = h ≢ halt.Ended → (w : World) → world_in r ≡ Some w → length (output w.trail) < before + length front + 4096

-- A go over these modules that halted: the run was the old one, and is the new one, which is a run of the same program if the old
-- one was. The first bytes went out in the go, and the text stands behind them.
pub record Went (modules : List Text) (stops : List StopAt) (how : Walk) (turns : ℕ) (valued : Bool) (old : Option Standing) (front text : List ℕ) (after : State) : Type 0 where
  pub first : World
  pub stood : IsWorldOf old first
  pub stops_at : Halt
  pub new : Option Standing
  pub goes : Goes modules stops how turns old stops_at new
  pub meant : (s : Start) → IsRunOf s modules old → IsRunOf s modules new
  pub told : Told valued (length (output first.trail)) stops_at new (front ++ text)
  pub few : KeepsFew stops_at (length (output first.trail)) front new
  pub follows : after ≡ state_after stops_at new

-- the sink gained some bytes of which this is so
abbrev pub Gains : Option (List ℕ) → Option (List ℕ) → (List ℕ → Type 0) → Type 0
Gains old new P = (front : List ℕ) × Appends old new front × P front

-- whether a line is open behind bytes; one was or was not before them
abbrev pub in_line_by : Bool → Option ℕ → Bool
in_line_by before None = before
in_line_by before (Some b) = not (b == 10)

abbrev pub stays_in_line : Bool → List ℕ → Bool
stays_in_line before bytes = in_line_by before (slice_get bytes (length bytes - 1))

-- the session whose run is over, with nothing told of it behind these bytes, which went out
abbrev pub cut_off : List ℕ → Plain → Plain
cut_off front session = record session { state = state.Ended; in_line = stays_in_line session.in_line front }

-- No memory was left: before the go, and all is as before; or in it, and these first bytes of what the program writes went out.
abbrev pub IsCutOff : (List ℕ → Type 0) → Plain → List ℕ → Plain → Type 0
IsCutOff First session front new = ((front ≡ []) × (new ≡ session)) ⊎ (First front × (new ≡ cut_off front session))

-- an end says where the run stands
abbrev pub is_told : Ended → Bool
is_told ended.OutOfSteps = false
is_told ended.NoRoom = false
is_told _ = true

-- it is known where a run stands
abbrev pub IsKnown : Option Standing → Type 0
IsKnown r = (m : Standing) × (r ≡ Some m)

-- Nothing is told of a go: bytes were written before it, and went out up to a place. Where none went out the line is as it was; else the
-- last of them says it, where they are known.
abbrev pub IsUntold : ℕ → ℕ → Bool → Option Standing → Lost → Type 0
IsUntold before sent within r (lost.NoMemory now) =
    ((sent ≤ before) × (now ≡ within)) ⊎ ((m : Standing) × (r ≡ Some m) × (now ≡ stays_in_line within (drop before (take sent (output (world_of m.state).trail)))))
IsUntold before sent within r (lost.Unsent unsent.NoMemory) = Unit {0}
IsUntold before sent within r (lost.Unsent unsent.Failed) = ⊥

-- Why nothing is told of a go: no memory was left, and a line is open or not behind what went out; or that could not be written.
abbrev pub Loses : Option (List ℕ) → Option (List ℕ) → (List ℕ → Type 0) → Bool → Lost → Type 0
Loses old new First before (lost.NoMemory now) = Gains old new (λ front. First front × (now ≡ stays_in_line before front))
Loses old new First before (lost.Unsent e) = Gains old new First

-- these are the first bytes that the program writes in a go: a sink that was empty could have just them
abbrev pub IsFirstOf : List Text → List StopAt → Walk → ℕ → Option Standing → List ℕ → Type 0
IsFirstOf modules stops how turns r front = SendsSome (Some []) (Some front) modules stops how turns r

-- the run of interpreted modules that goes on in a state
abbrev pub RunsIn : State → Option Standing → Type 0
RunsIn state.Idle r = ⊥
RunsIn (state.Stopped s) r = r ≡ s
RunsIn (state.Paused s) r = r ≡ s
RunsIn (state.StoppedMixed w) r = ⊥
RunsIn (state.PausedMixed w) r = ⊥
RunsIn state.Ended r = ⊥

abbrev pub IsGoing : State → Type 0
IsGoing state.Idle = ⊥
IsGoing (state.Stopped r) = Unit {0}
IsGoing (state.Paused r) = Unit {0}
IsGoing (state.StoppedMixed w) = ⊥
IsGoing (state.PausedMixed w) = ⊥
IsGoing state.Ended = ⊥

-- no memory was left: before the go, and all is as before; or in it, and the run is over
abbrev pub IsGivenUp : Plain → Plain → Type 0
IsGivenUp session new = (new ≡ session) ⊎ (new ≡ in_state state.Ended session)

-- a session's run, behind the changes that wait for it, is taken out of the session
abbrev pub TakesRun : Plain → Option Standing → Plain → Type 0
TakesRun session run new = ((r : Option Standing) × RunsIn session.state r × (run ≡ settled session r)) × (new ≡ in_state state.Ended session)

-- one go of a session from a run, with the text that answers it behind what went out, and the session behind it
abbrev pub GoesOn : Plain → Walk → Option Standing → List ℕ → List ℕ → Plain → Type 0
GoesOn session how r front text new =
    (s : State) × Went (going_texts session) (going_stops session) how session.limits.turns (is_valued session) r front text s × (new ≡ in_state s session)

-- the first bytes that the program writes as a session's run goes on so, behind the changes that wait for it
abbrev pub WalkFirst : Plain → Walk → List ℕ → Type 0
WalkFirst session how front = (r : Option Standing) × RunsIn session.state r × IsFirstOf (going_texts session) (going_stops session) how session.limits.turns (settled session r) front

-- The answers to `step`, `next` and `cont` behind these bytes, which went out: the run goes through the changes that wait for it, and on from
-- there under the present modules.
abbrev pub Walks : Plain → Walk → List ℕ → Answer → Plain → Type 0
Walks session how front (answer.Ran text) new = (r : Option Standing) × RunsIn session.state r × GoesOn (caught_up session) how (settled session r) front text new
Walks session how front answer.NoMemory new = IsCutOff (WalkFirst session how) session front new
Walks session how front _ new = ⊥

-- What comes of a go of a session's run: an answer behind what went out, or a write that failed.
abbrev pub WalksOut : Option (List ℕ) → Option (List ℕ) → Plain → Walk → Result Answer Unsent → Plain → Type 0
WalksOut sink gained session how (Ok said) new = Gains sink gained (λ front. Walks session how front said new)
WalksOut sink gained session how (Err e) new = Gains sink gained (λ front. WalkFirst session how front)

-- the run of a session's program from its start on, by a call of the function with this key
abbrev pub run_of : Plain → Key → List ℕ → Option Standing
run_of session key bytes = Some (started (going_texts session) key session.limits.stack session.limits.heap bytes)

-- A run with this input goes from its start on: it is one of the program that the modules are, with the text of an evaluation behind them
-- where the session has one.
abbrev pub Begins : Plain → Key → List ℕ → List ℕ → List ℕ → Plain → Type 0
Begins session key bytes front text new =
    IsRunOf (start_of (going_texts session) key session.limits.stack session.limits.heap bytes) (going_texts session) (run_of session key bytes)
    × GoesOn session walk.Cont (run_of session key bytes) front text new

-- the first bytes that it writes there
abbrev pub BeginFirst : Plain → Key → List ℕ → List ℕ → Type 0
BeginFirst session key bytes front = IsFirstOf (going_texts session) (going_stops session) walk.Cont session.limits.turns (run_of session key bytes) front

-- what is answered as it goes from its start on
abbrev pub BeginsSo : Plain → Key → List ℕ → List ℕ → Answer → Plain → Type 0
BeginsSo session key bytes front (answer.Ran text) new = Begins session key bytes front text new
BeginsSo session key bytes front answer.NoMemory new = IsCutOff (BeginFirst session key bytes) session front new
BeginsSo session key bytes front _ new = ⊥

-- and what comes of it
abbrev pub BeginsOut : Option (List ℕ) → Option (List ℕ) → Plain → Key → List ℕ → Result Answer Unsent → Plain → Type 0
BeginsOut sink gained session key bytes (Ok said) new = Gains sink gained (λ front. BeginsSo session key bytes front said new)
BeginsOut sink gained session key bytes (Err e) new = Gains sink gained (λ front. BeginFirst session key bytes front)
