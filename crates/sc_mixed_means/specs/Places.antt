-- Inside: plumbing, a representation, an invariant or a promise beside the claim (docs/TRUST.md).
-- What a place of a run stands for, n moves deep: a world of the meaning, and what each history that the run can still have gives from there.
use Rattle.std.specs.Prelude.{◌≡◌, ◌⊎◌, ⊤, ℕ, suc, ◌<◌, ◌≤◌, List, [], ◌∷◌, Result, Ok, Err}
use Rattle.sc_emu.specs.Registers.{AreRegisters}
use Rattle.sc_interp.specs.declared.stepped.Shown.{Shown}
use Rattle.sc_interp_access.specs.declared.stop.Stop.{Stop}
use Rattle.sc_interp_change_laws.specs.Following.{changed_state}
use Rattle.sc_interp_change_laws.specs.Showing.{IsEvent}
use Rattle.sc_interp_laws.specs.Worlds.{world_of}
use Rattle.sc_interp_machine.specs.RunMeans as left
use Rattle.sc_interp_machine.specs.Runs.{State}
use Rattle.sc_like.specs.Alike.{Like}
use Rattle.sc_like.specs.States.{StatesAlike}
use Rattle.sc_meaning.specs.Expressions.{Answer}
use Rattle.sc_meaning.specs.Outcomes.{Outcome, Over, Ending}
use Rattle.sc_meaning.specs.Versions.{History}
use Rattle.sc_meaning.specs.World.{World}
use Rattle.sc_mixed.specs.Machine.{Moves}
use Rattle.sc_mixed.specs.declared.broken.Break.{Break}
use Rattle.sc_mixed.specs.declared.broken.Break.TheVariants.{Meant, Crashed}
use Rattle.sc_mixed.specs.declared.calls.Calls.{Calls}
use Rattle.sc_mixed.specs.declared.calls.Lower.{Lower}
use Rattle.sc_mixed.specs.declared.calls.Lower.TheVariants.{InBodies, InCode}
use Rattle.sc_mixed.specs.declared.calls.Moved.{Moved}
use Rattle.sc_mixed.specs.declared.calls.Next.{Next}
use Rattle.sc_mixed.specs.declared.calls.Next.TheVariants.{Steps, Executes, Serves}
use Rattle.sc_world.specs.Standing.{state_of}
use Rattle.sc_mixed_means.specs.Owed.{CallsMean, IsCode, CodeMeans, CodeAfter, EndsSo, IsLost, PlaceChanges}
use Rattle.sc_mixed_means.specs.Stages.{Build, ComesWith, Fits, Gives, IsPartOf, Live, Stage, Then, from_here, next_stage, since, texts_of}
use Rattle.sc_mixed_means.specs.Waiting.{IsFit, Keeps, KeepsWaiting}

-- Out is what comes of the answer r as what waits below takes it, from the innermost on, in a run that has this world. Each part goes at least n deep.
abbrev pub LowerAfter : ℕ → (s : Stage) → World → List Lower → (v : World) → Gives s.past v → Gives s.past v → Type 0
LowerAfter n s w [] v r out = (h : History) (l : Live s.past v h) → r h l ≡ out h l
LowerAfter n s w (InBodies cs sp depth ∷ ls) v r out = (q : Gives s.past v) × ((m : ℕ) × (s.look.deep n ≤ m) × ((h : History) (l : Live s.past v h) → left.After h m cs (r h l) (q h l))) × LowerAfter n s w ls v q out
LowerAfter n s w (InCode regs given ∷ ls) v r out = (q : Gives s.past v) × ((m : ℕ) × (n ≤ m) × (old : World) × Keeps regs old w × CodeAfter m s regs given ls old v r q) × LowerAfter n s w ls v q out

-- what waits takes what comes behind a change to the next build
abbrev pub LowerDue : ℕ → (s : Stage) → ℕ → Build → List Build → World → List Lower → (before : World) → Gives s.past before → (History → Outcome Answer) → Type 0
LowerDue n s count b bs w lower before gives out =
    (u : World) (x : Gives (Then s.past count b.texts) u) → IsPartOf s.past before gives (Then s.past count b.texts) u x → LowerAfter n (next_stage s count b bs) w lower u x (from_here out (Then s.past count b.texts) u)

-- interpreted calls stand behind an event at which the next build may come
pub record StepsChange (n : ℕ) (s : Stage) (b : Build) (bs : List Build) (lower : List Lower) (w : World) (stands : State) (out : History → Outcome Answer) : Type 0 where
  pub before : World
  pub late : since s.past ≤ before.count
  pub less : before.count < (world_of stands).count
  pub deep : ℕ
  pub enough : s.look.deep n ≤ deep
  pub gives : Gives s.past before
  pub means : (h : History) (l : Live s.past before h) → Fits s.past h (world_of stands).count → ComesWith h (world_of stands).count (texts_of s.past) b.texts → left.Means h deep (changed_state (texts_of s.past) b.texts stands) (gives h l)
  pub over : (h : History) (l : Live s.past before h) (e : Ending) → gives h l ≡ Over e → out h ≡ Over e
  pub after : LowerDue n s (world_of stands).count b bs w lower before gives out

abbrev pub StepsDue : ℕ → List Build → Stage → List Lower → World → State → (History → Outcome Answer) → Type 0
StepsDue n [] s lower w stands out = ⊤
StepsDue n (b ∷ bs) s lower w stands out = StepsChange n s b bs lower w stands out

-- what each history gives from a state of interpreted calls, and what waits makes of that
pub record StateGives (n : ℕ) (s : Stage) (stands : State) (lower : List Lower) (w : World) (out : History → Outcome Answer) : Type 0 where
  pub late : since s.past ≤ (world_of stands).count
  pub deep : ℕ
  pub enough : s.look.deep n ≤ deep
  pub gives : Gives s.past (world_of stands)
  pub means : (h : History) (l : Live s.past (world_of stands) h) → left.Means h deep stands (gives h l)
  pub after : LowerAfter n s w lower (world_of stands) gives (from_here out s.past (world_of stands))

pub record StepsMean (n : ℕ) (s : Stage) (state : State) (lower : List Lower) (w : World) (now : Shown) (out : History → Outcome Answer) : Type 0 where
  pub stands : State
  pub alike : StatesAlike Like state stands
  pub gives : StateGives n s stands lower w out
  pub due : IsEvent now → StepsDue n s.later s lower w stands out

-- compiled code stands there
pub record CodeChange (n : ℕ) (s : Stage) (b : Build) (bs : List Build) (next : Next) (c : Calls) (w stands : World) (out : History → Outcome Answer) : Type 0 where
  pub before : World
  pub late : since s.past ≤ before.count
  pub less : before.count < stands.count
  pub deep : ℕ
  pub enough : n ≤ deep
  pub gives : Gives s.past before
  pub due : PlaceChanges (CodeMeans deep) s b bs before gives next c w stands
  pub over : (h : History) (l : Live s.past before h) (e : Ending) → gives h l ≡ Over e → out h ≡ Over e
  pub after : LowerDue n s stands.count b bs w c.lower before gives out

abbrev pub CodeDue : ℕ → List Build → Stage → Next → Calls → World → World → (History → Outcome Answer) → Type 0
CodeDue n [] s next c w stands out = ⊤
CodeDue n (b ∷ bs) s next c w stands out = CodeChange n s b bs next c w stands out

pub record CodeStands (n : ℕ) (s : Stage) (next : Next) (c : Calls) (w : World) (now : Shown) (out : History → Outcome Answer) : Type 0 where
  pub stands : World
  pub alike : Like w stands
  pub late : since s.past ≤ stands.count
  pub deep : ℕ
  pub enough : n ≤ deep
  pub gives : Gives s.past stands
  pub means : CodeMeans deep s next c w stands gives
  pub after : LowerAfter n s w c.lower stands gives (from_here out s.past stands)
  pub due : IsEvent now → CodeDue n s.later s next c w stands out

abbrev pub Means : ℕ → Stage → Next → Calls → World → Shown → (History → Outcome Answer) → Type 0
Means n s (Steps g) c w now out = StepsMean n s (state_of g c.callers w) c.lower w now out
Means n s Executes c w now out = CodeStands n s Executes c w now out
Means n s (Serves k) c w now out = CodeStands n s (Serves k) c w now out

-- behind a move: it goes on; or the run ended as the meaning does, but that memory may run out; or no more is claimed of it
abbrev pub IsLostFrom : Stage → World → (History → Outcome Answer) → Type 0
IsLostFrom s old out = (v : World) × Like old v × IsLost s.past v (from_here out s.past v)

abbrev pub EndsIn : Stage → World → Stop → World → (History → Outcome Answer) → Type 0
EndsIn s old stop w out = (v : World) × Like old v × EndsSo s.past v (from_here out s.past v) stop w

abbrev pub Comes : ℕ → Stage → World → Result Moved Break → Next → Calls → World → (History → Outcome Answer) → Type 0
Comes n s old (Ok moved) after d w out = Means n s after d w moved.shown out ⊎ IsLostFrom s old out
Comes n s old (Err (Meant stop)) after d w out = EndsIn s old stop w out ⊎ IsLostFrom s old out
Comes n s old (Err (Crashed pc cause)) after d w out = IsLostFrom s old out

-- a move of interpreted calls, or from them or to them, keeps what waits; a move of compiled code owes that itself
-- and a call that goes to compiled code leaves objects as they were: the words of its arguments stand beside them; and all registers are there
abbrev pub KeepsBy : Next → Result Moved Break → List Lower → World → Next → Calls → World → Type 0
KeepsBy (Steps g) (Ok moved) ls w after d u = KeepsWaiting ls w u × (IsCode after → Like u w × AreRegisters d.regs.words)
KeepsBy (Steps g) (Err broken) ls w after d u = ⊤
KeepsBy Executes result ls w after d u = ⊤
KeepsBy (Serves k) result ls w after d u = ⊤

-- the step theorem: what a place of a run means before a move, it means after it
abbrev pub MovesKeepTheMeaning : Type 0
MovesKeepTheMeaning =
    (n : ℕ) (s : Stage) (next after : Next) (c d : Calls) (w u : World) (now : Shown) (result : Result Moved Break) (out : History → Outcome Answer) → CallsMean s → IsFit (texts_of s.past) s.image s.places c.lower w → Means (suc n) s next c w now out →
    Moves (texts_of s.past) s.image next c w result after d u → KeepsBy next result c.lower w after d u → Comes n s w result after d u out
