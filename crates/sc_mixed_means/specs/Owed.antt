-- Yardstick: to be compared with what it restates (docs/TRUST.md).
-- What compiled code owes to the meaning, n moves deep: a place of it stands for a world of the meaning and for what its outermost call gives from there.
-- Each move of it keeps that, or calls out, or returns, or the next step of the meaning that a run would show is an undefined one of compiled code.
use Rattle.std.specs.Prelude.{◌≡◌, ◌⊎◌, ⊤, ℕ, zero, suc, ◌<◌, ◌≤◌, ◌&&◌, ◌||◌, not, Bool, true, false, List, [], ◌∷◌, Option, Some, Ok, Err}
use Rattle.sc_base.specs.declared.key.Key.{Key}
use Rattle.sc_base.specs.declared.report.Rule.{Rule}
use Rattle.sc_base.specs.declared.report.Rule.TheVariants.{U12}
use Rattle.sc_emu.specs.Registers.{AreRegisters, Registers}
use Rattle.sc_emu.specs.declared.outcome.Crash.{Crash}
use Rattle.sc_interp.specs.declared.going.Going.{Going}
use Rattle.sc_interp.specs.declared.going.Going.TheVariants as going
use Rattle.sc_interp.specs.declared.stepped.Shown.{Shown}
use Rattle.sc_interp_access.specs.Gives.{ending_of}
use Rattle.sc_interp_access.specs.declared.stop.Stop.{Stop}
use Rattle.sc_interp_change_laws.specs.Following.{changed_state}
use Rattle.sc_interp_change_laws.specs.Showing.{IsEvent}
use Rattle.sc_interp_laws.specs.Worlds.{world_of}
use Rattle.sc_interp_machine.specs.RunMeans as left
use Rattle.sc_interp_machine.specs.Runs.{State}
use Rattle.sc_like.specs.Alike.{Like, shown_of}
use Rattle.sc_like.specs.Outcomes.{EndsAlike}
use Rattle.sc_like.specs.States.{StatesAlike}
use Rattle.sc_meaning.specs.Calls.{call}
use Rattle.sc_meaning.specs.Changes.{changed}
use Rattle.sc_meaning.specs.Expressions.{Answer}
use Rattle.sc_meaning.specs.Laws.{Leads}
use Rattle.sc_meaning.specs.Outcomes.{Done, Over, Ending, Undefined, Breach, world_at, world_after}
use Rattle.sc_meaning.specs.Values.{Value}
use Rattle.sc_meaning.specs.Versions.{History, callee_of}
use Rattle.sc_meaning.specs.World.{World, Item, GoesOut, ComesBack, Push, Pop}
use Rattle.sc_mixed.specs.Bridge.{Calling, Resumes, is_code}
use Rattle.sc_mixed.specs.Changing.{IsPlaced}
use Rattle.sc_mixed.specs.Machine.{Moves}
use Rattle.sc_mixed.specs.declared.broken.Break.TheVariants.{Meant, Crashed}
use Rattle.sc_mixed.specs.declared.calls.Calls.{Calls}
use Rattle.sc_mixed.specs.declared.calls.Lower.{Lower}
use Rattle.sc_mixed.specs.declared.calls.Lower.TheVariants.{InBodies, InCode}
use Rattle.sc_mixed.specs.declared.calls.Moved.{Moved}
use Rattle.sc_mixed.specs.declared.calls.Next.{Next}
use Rattle.sc_mixed.specs.declared.calls.Next.TheVariants.{Steps, Executes, Serves}
use Rattle.sc_services.specs.Frames.{is_in_code}
use Rattle.sc_world.specs.Standing.{state_of}
use Rattle.sc_mixed_means.specs.Stages.{Build, Look, Past, Then, Stage, Fits, Live, Gives, IsPartOf, ArePartsOf, ComesWith, next_stage, since, texts_of}
use Rattle.sc_mixed_means.specs.Waiting.{IsFit, Keeps, KeepsWaiting}

-- ---- where no more is claimed

-- whether a call is between two texts, behind an item: it has gone out and entered none, or has left one and not come back
abbrev pub is_out_after : Item → Bool → Bool
is_out_after GoesOut out = true
is_out_after (Push f) out = false
is_out_after Pop out = true
is_out_after ComesBack out = false
is_out_after _ out = out

abbrev pub is_out_along : List Item → Bool → Bool
is_out_along [] out = out
is_out_along (i ∷ is) out = is_out_along is (is_out_after i out)

-- the last call to go out has entered no text: it is one of the library, or one that breaks a rule as it goes out
abbrev pub is_calling_out : World → Bool
is_calling_out w = is_out_along w.trail false

abbrev pub breaks_type : Rule → Bool
breaks_type U12 = true
breaks_type _ = false

-- An undefined step is one that compiled code itself takes: its call is innermost, and the step is neither inside a call of the library nor a call of
-- what has no definition. A call of a function of another type is such a step.
abbrev pub is_own_step : Breach → World → Bool
is_own_step b w = is_in_code w.frames && (not (is_calling_out w) || breaks_type b.rule)

-- the next step of the meaning that a run would show, or that ends it, is an undefined one that compiled code takes: no more is claimed of the run
pub record IsLost (p : Past) (v : World) (q : Gives p v) : Type 0 where
  pub breach : Breach
  pub world : World
  pub leads : Leads v world
  pub compiled : is_own_step breach world ≡ true
  pub shows : (shown_of world.trail).items ≡ (shown_of v.trail).items
  pub ends : (h : History) (l : Live p v h) → Live p world h → q h l ≡ Over (Undefined breach world)

-- ---- what a place and what waits stand for

-- compiled code is next
abbrev pub IsCode : Next → Type 0
IsCode (Steps g) = ⊥
IsCode Executes = ⊤
IsCode (Serves n) = ⊤

-- a place of compiled code, with the run's world, the meaning's, and what each history gives
abbrev pub PlacesMean : Type 1
PlacesMean = (s : Stage) → Next → Calls → World → (v : World) → Gives s.past v → Type 0

-- Compiled code that waits with these registers, above what waits below, since the run had this world. Where the answer of its call is a, its outermost
-- call gives q.
abbrev pub CodeWaits : Type 1
CodeWaits = (s : Stage) → Registers → Option Answer → List Lower → World → (v : World) → Gives s.past v → Gives s.past v → Type 0

-- the meaning goes on from here
abbrev pub Lead : (p : Past) (v : World) → Gives p v → Type 0
Lead p v q = (h : History) (l : Live p v h) → Leads v (world_after (q h l))

-- it goes on behind the answer; and where the call ends the run, that is the end
pub record GoThrough (p : Past) (v : World) (a q : Gives p v) : Type 0 where
  pub leads : (h : History) (l : Live p v h) → Leads (world_after (a h l)) (world_after (q h l))
  pub ends : (h : History) (l : Live p v h) (e : Ending) → a h l ≡ Over e → q h l ≡ Over e

-- ---- behind an event the next build comes

-- the texts become those of the next build, in the run's world and in the meaning's; or the run ends in that
pub record Changes (s : Stage) (b : Build) (w x stands u : World) : Type 0 where
  pub placed : World
  pub is : IsPlaced w placed
  pub run : changed (texts_of s.past) b.texts placed ≡ Done tt x
  pub meaning : changed (texts_of s.past) b.texts stands ≡ Done tt u

pub record PlaceChanges (Means : PlacesMean) (s : Stage) (b : Build) (bs : List Build) (before : World) (q : Gives s.past before) (next : Next) (d : Calls) (w stands : World) : Type 0 where
  pub goes : (x u : World) → Changes s b w x stands u → (part : Gives (Then s.past stands.count b.texts) u) → IsPartOf s.past before q (Then s.past stands.count b.texts) u part → Means (next_stage s stands.count b bs) next d x u part
  pub ends : (e : Ending) → changed (texts_of s.past) b.texts stands ≡ Over e → (h : History) (l : Live s.past before h) → Fits s.past h stands.count → ComesWith h stands.count (texts_of s.past) b.texts → q h l ≡ Over e

-- there the meaning stands behind the event
abbrev pub PlaceDue : PlacesMean → List Build → (s : Stage) (before : World) → Gives s.past before → Next → Calls → World → World → Type 0
PlaceDue Means [] s before q next d w stands = ⊤
PlaceDue Means (b ∷ bs) s before q next d w stands = PlaceChanges Means s b bs before q next d w stands

-- interpreted calls that compiled code called go on under the new texts, and it waits for what they give there
pub record StateChanges (After : CodeWaits) (n : ℕ) (s : Stage) (b : Build) (bs : List Build) (before : World) (q : Gives s.past before) (regs : Registers) (given : Option Answer) (below : List Lower) (old : World) (stands : State) : Type 0 where
  pub gives : Gives s.past before
  pub means : (h : History) (l : Live s.past before h) → Fits s.past h (world_of stands).count → ComesWith h (world_of stands).count (texts_of s.past) b.texts → left.Means h n (changed_state (texts_of s.past) b.texts stands) (gives h l)
  pub through : GoThrough s.past before gives q
  pub takes : (u : World) (x y : Gives (Then s.past (world_of stands).count b.texts) u) → ArePartsOf s.past before gives q (Then s.past (world_of stands).count b.texts) u x y → After (next_stage s (world_of stands).count b bs) regs given below old u x y

abbrev pub StateDue : CodeWaits → ℕ → List Build → (s : Stage) (before : World) → Gives s.past before → Registers → Option Answer → List Lower → World → State → Type 0
StateDue After n [] s before q regs given below old stands = ⊤
StateDue After n (b ∷ bs) s before q regs given below old stands = StateChanges After n s b bs before q regs given below old stands

-- ---- a move of compiled code

-- the same call goes on
pub record CodeGoes (Means : PlacesMean) (s : Stage) (v : World) (q : Gives s.past v) (c : Calls) (now : Shown) (next : Next) (d : Calls) (w : World) : Type 0 where
  pub stands : World
  pub leads : Leads v stands
  pub alike : Like w stands
  pub code : IsCode next
  pub lower : d.lower ≡ c.lower
  pub means : (part : Gives s.past stands) → IsPartOf s.past v q s.past stands part → Means s next d w stands part
  pub due : IsEvent now → (v.count < stands.count) × PlaceDue Means s.later s v q next d w stands

-- what the call that it makes gives by each history, and what that which waits makes of it, where the outermost call gives this: how deep the meaning
-- looks is known only by the evidence that a history can still be had
pub record CallGives (After : CodeWaits) (n : ℕ) (s : Stage) (regs : Registers) (given : Option Answer) (below : List Lower) (w : World) (stands : State) (part : Gives s.past (world_of stands)) : Type 0 where
  pub gives : Gives s.past (world_of stands)
  pub means : (h : History) (l : Live s.past (world_of stands) h) → left.Means h n stands (gives h l)
  pub takes : After s regs given below w (world_of stands) gives part

-- it calls out, and waits
pub record CodeCalls (After : CodeWaits) (n : ℕ) (s : Stage) (v : World) (q : Gives s.past v) (c : Calls) (now : Shown) (state : State) (d : Calls) (w : World) : Type 0 where
  pub regs : Registers
  pub given : Option Answer
  pub below : d.lower ≡ InCode regs given ∷ c.lower
  pub stands : State
  pub leads : Leads v (world_of stands)
  pub alike : StatesAlike Like state stands
  pub waits : (part : Gives s.past (world_of stands)) → IsPartOf s.past v q s.past (world_of stands) part → CallGives After n s regs given c.lower w stands part
  pub due : IsEvent now → (v.count < (world_of stands).count) × StateDue After n s.later s v q regs given c.lower w stands

-- it has returned, with what its outermost call gives
abbrev pub CodeReturns : (p : Past) (v : World) → Gives p v → List Lower → Answer → Calls → World → Type 0
CodeReturns p v q (InBodies cs sp depth ∷ ls) a d w = (u : World) × Leads v u × Like w u × (d.callers ≡ cs) × (d.lower ≡ ls) × ((h : History) (l : Live p v h) → Live p u h → q h l ≡ Done a u)
CodeReturns p v q (InCode r given ∷ ls) a d w = ⊥
CodeReturns p v q [] a d w = ⊥

pub data CodeMoved (Means : PlacesMean) (After : CodeWaits) (n : ℕ) (s : Stage) (v : World) (q : Gives s.past v) (c : Calls) (now : Shown) (next : Next) (d : Calls) (w : World) : Type 0 where
  code_on : CodeGoes Means s v q c now next d w → CodeMoved Means After n s v q c now next d w
  code_out : (g : Going) → next ≡ Steps g → CodeCalls After n s v q c now (state_of g d.callers w) d w → CodeMoved Means After n s v q c now next d w
  code_back : (a : Answer) → next ≡ Steps (going.Answers a) → (IsEvent now → ⊥) → CodeReturns s.past v q c.lower a d w → CodeMoved Means After n s v q c now next d w

-- the run ends as the meaning does
abbrev pub EndsSo : (p : Past) (v : World) → Gives p v → Stop → World → Type 0
EndsSo p v q stop w = (e : Ending) → ending_of stop w ≡ Some e → (f : Ending) × EndsAlike Like e f × ((h : History) (l : Live p v h) → Live p (world_at f) h → q h l ≡ Over f)

pub record PlaceOwes (Means : PlacesMean) (After : CodeWaits) (n : ℕ) (s : Stage) (next : Next) (c : Calls) (w v : World) (q : Gives s.past v) : Type 0 where
  pub goes : (after : Next) (d : Calls) (u : World) (moved : Moved) → IsFit (texts_of s.past) s.image s.places c.lower w → Like w v → Moves (texts_of s.past) s.image next c w (Ok moved) after d u → (KeepsWaiting c.lower w u × CodeMoved Means After n s v q c moved.shown after d u) ⊎ IsLost s.past v q
  pub ends : (after : Next) (d : Calls) (u : World) (stop : Stop) → IsFit (texts_of s.past) s.image s.places c.lower w → Like w v → Moves (texts_of s.past) s.image next c w (Err (Meant stop)) after d u → EndsSo s.past v q stop u ⊎ IsLost s.past v q
  pub crashes : (after : Next) (d : Calls) (u : World) (pc : ℕ) (cause : Crash) → IsFit (texts_of s.past) s.image s.places c.lower w → Like w v → Moves (texts_of s.past) s.image next c w (Err (Crashed pc cause)) after d u → IsLost s.past v q

-- ---- the answer comes

-- the next build comes while it waits
abbrev pub WaitChanges : CodeWaits → List Build → (s : Stage) → Registers → Option Answer → List Lower → World → (v : World) → Gives s.past v → Gives s.past v → Type 0
WaitChanges After [] s r given ls old v a q = ⊤
WaitChanges After (b ∷ bs) s r given ls old v a q =
    (count : ℕ) (u : World) (x y : Gives (Then s.past count b.texts) u) → ArePartsOf s.past v a q (Then s.past count b.texts) u x y → After (next_stage s count b bs) r given ls old u x y

-- Where the call gives this answer, and what the code keeps in its frame is as it was, the code goes on behind the call.
pub record WaitOwes (Means : PlacesMean) (After : CodeWaits) (s : Stage) (r : Registers) (given : Option Answer) (ls : List Lower) (old v : World) (a q : Gives s.past v) : Type 0 where
  pub takes : (x : Answer) (c d : Calls) (next : Next) (w u : World) (part : Gives s.past u) → IsFit (texts_of s.past) s.image s.places (InCode r given ∷ ls) w → Like w u → Keeps r old w → ((h : History) (l : Live s.past u h) → (k : Live s.past v h) × (a h k ≡ Done x u) × (part h l ≡ q h k)) → Resumes w x r given ls c next d → Means s next d w u part
  pub changes : WaitChanges After s.later s r given ls old v a q

abbrev mutual
  pub CodeMeans : ℕ → (s : Stage) → Next → Calls → World → (v : World) → Gives s.past v → Type 0
  CodeMeans zero s next c w v q = Lead s.past v q
  CodeMeans (suc n) s next c w v q = Lead s.past v q × PlaceOwes (CodeMeans n) (CodeAfter n) (s.look.deep n) s next c w v q

  pub CodeAfter : ℕ → (s : Stage) → Registers → Option Answer → List Lower → World → (v : World) → Gives s.past v → Gives s.past v → Type 0
  CodeAfter zero s r given ls old v a q = GoThrough s.past v a q
  CodeAfter (suc n) s r given ls old v a q = GoThrough s.past v a q × WaitOwes (CodeMeans n) (CodeAfter n) s r given ls old v a q

-- ---- what is owed in all

-- A call of compiled code, with its arguments in their places and all registers there, gives what the meaning's call does, where the texts that are present
-- have come.
abbrev pub CallsMean : Stage → Type 0
CallsMean s =
    (n : ℕ) (key : Key) (xs : List Value) (c d : Calls) (w u v : World) (next : Next) → is_code (callee_of (texts_of s.past) key) ≡ true → IsFit (texts_of s.past) s.image s.places c.lower w → Like w v → Calling s.image key xs c w next d u → AreRegisters d.regs.words → Like u v → since s.past ≤ v.count →
    (q : Gives s.past v) → ((h : History) (l : Live s.past v h) → (m : ℕ) × (s.look.deep n ≤ m) × (q h l ≡ call m h key xs v)) → CodeMeans n s next d u v q

-- So it is of all builds of a run, whatever came before: the one premise on compiled code. It is to be met by the theorem on the compiler, for builds whose
-- images are the linked texts of what the compiler made of their modules, each linked over the one before: a text that is made of a formed function does,
-- instruction by instruction, what the meaning of that function does. Where the machine leaves free what is written (a store over an object's end, a copy
-- that is not inside two objects) such a text comes behind an undefined step alone.
abbrev pub CompiledTextsAreRight : Look → List Build → Type 0
CompiledTextsAreRight look [] = ⊤
CompiledTextsAreRight look (b ∷ bs) = ((p : Past) → texts_of p ≡ b.texts → CallsMean (record { look = look; past = p; image = b.image; places = b.places; later = bs })) × CompiledTextsAreRight look bs
