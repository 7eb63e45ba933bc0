-- Inside: plumbing, a representation, an invariant or a promise beside the claim (docs/TRUST.md).
-- What parts of a move come to, from which it is put together.
use Rattle.std.specs.Prelude.{◌≡◌, ⊤, ℕ, suc, ◌+◌, ◌-◌, ◌<◌, ◌≤◌, Bool, true, false, List, [], ◌⊎◌, Result, Ok, Err, Option, Some, None}
use Rattle.sc_base.specs.declared.key.Key.{Key}
use Rattle.sc_emu.specs.Registers.{Registers}
use Rattle.sc_interp.specs.Shows.{entry_shown}
use Rattle.sc_interp.specs.declared.going.Going.{Going}
use Rattle.sc_interp.specs.declared.stepped.Shown.{Shown}
use Rattle.sc_interp.specs.declared.stepped.Shown.TheVariants as shows
use Rattle.sc_interp_access.specs.Gives.{ending_of}
use Rattle.sc_interp_access.specs.declared.ended.Ended.TheVariants as ended
use Rattle.sc_interp_access.specs.declared.stop.Stop.{Stop}
use Rattle.sc_interp_access.specs.declared.stop.Stop.TheVariants as stop
use Rattle.sc_interp_machine.specs.Runs.{Caller, State, Ends}
use Rattle.sc_interp_world.specs.Outputs.{bytes_moved}
use Rattle.sc_isa_image.specs.declared.image.Image.{Image}
use Rattle.sc_meaning.specs.Expressions.{Answer}
use Rattle.sc_meaning.specs.Outcomes.{Ending}
use Rattle.sc_meaning.specs.Versions.{Text}
use Rattle.sc_meaning.specs.World.{World, ComesBack, GoesOut, pass}
use Rattle.sc_services.specs.declared.entering.Entered.{Entered}
use Rattle.sc_services.specs.declared.entering.Entered.TheVariants as entered
use Rattle.sc_services.specs.declared.leaving.Left.{Left}
use Rattle.sc_services.specs.declared.leaving.Left.TheVariants as left
use Rattle.sc_world.specs.Goes.{entry_next}
use Rattle.sc_world.specs.Standing.{state_of}
use Rattle.sc_world.specs.Wants.{Want}
use Rattle.sc_world.specs.declared.halt.Halt.{Halt}
use Rattle.sc_mixed.specs.Bridge.{Calling, Returns, waiting, with_registers}
use Rattle.sc_mixed.specs.Goes.{Leads, Reaches, rests_in}
use Rattle.sc_mixed.specs.Instructions.{Ran}
use Rattle.sc_mixed.specs.Machine.{Executed, IsCallMoved, IsEntered, IsLeft, Moves, left_calls, quiet}
use Rattle.sc_mixed.specs.Serving.{IsHere}
use Rattle.sc_mixed.specs.Standing.{Standing, ended_by, standing_on, standing_over}
use Rattle.sc_mixed.specs.declared.broken.Break.{Break}
use Rattle.sc_mixed.specs.declared.broken.Break.TheVariants.{Meant, Crashed}
use Rattle.sc_mixed.specs.declared.calls.Calls.{Calls}
use Rattle.sc_mixed.specs.declared.calls.Moved.{Moved}
use Rattle.sc_mixed.specs.declared.calls.Next.{Next}
use Rattle.sc_mixed.specs.declared.calls.Next.TheVariants.{Steps, Executes, Serves}
use Rattle.sc_mixed.specs.declared.course.Course.{Course}
use Rattle.sc_mixed.specs.declared.course.Course.TheVariants.{On, Over}
use Rattle.sc_mixed.specs.declared.ended.MixedEnd.{MixedEnd}
use Rattle.sc_mixed.specs.declared.ended.MixedEnd.TheVariants as mixed
use Rattle.sc_mixed.specs.declared.execute.Went.{Went}
use Rattle.sc_mixed.specs.declared.execute.Went.TheVariants as went
use Rattle.sc_mixed.specs.declared.turn.Turned.{Turned}
use Rattle.sc_mixed.specs.declared.turn.Turned.TheVariants as turned

-- a call goes on with this state
pub record CallGoes (s : State) (cs : List Caller) (w : World) (moved : Moved) (next : Next) (v : World) : Type 0 where
  pub going : Going
  pub goes : next ≡ Steps going
  pub state : s ≡ state_of going cs v
  pub costs : IsCallMoved s w moved v

abbrev pub CallsKey : State → List Caller → World → Result Moved Stop → Next → World → Type 0
CallsKey s cs w (Ok moved) next v = CallGoes s cs w moved next v
CallsKey s cs w (Err stopped) next v = (e : Ending) → ending_of stopped v ≡ Some e → s ≡ Ends e

-- and compiled code waits for it
abbrev pub CallsKeyOut : State → Calls → World → Result Moved Break → Next → Calls → World → Type 0
CallsKeyOut s c w (Ok moved) next d v = CallGoes s c.callers w moved next v × (d ≡ waiting c)
CallsKeyOut s c w (Err (Meant stopped)) next d v = (e : Ending) → ending_of stopped v ≡ Some e → s ≡ Ends e
CallsKeyOut s c w (Err (Crashed pc cause)) next d v = ⊥

-- what is said of a call or a block that was entered
abbrev pub EnteredSo : Entered → Registers → World → World → Result Moved Break → Type 0
EnteredSo how r w v (Ok moved) = IsEntered how moved w v
EnteredSo how r w v (Err (Meant stopped)) = stopped ≡ stop.NoRoom
EnteredSo how r w v (Err (Crashed pc cause)) = (how ≡ entered.Refused) × IsHere r pc cause

-- what is said of a call or a block that was left
abbrev pub LeftSo : Left → Answer → Calls → World → Result Moved Break → Calls → Type 0
LeftSo how a c v (Ok moved) d = (moved ≡ quiet) × IsLeft how × (d ≡ left_calls how a c v)
LeftSo how a c v (Err (Meant stopped)) d = ⊥
LeftSo how a c v (Err (Crashed pc cause)) d = (how ≡ left.Refused) × IsHere c.regs pc cause

-- a crossing takes its place
abbrev pub CrossesTo : {E : Type 0} → Result Next E → Result Moved Break → Next → Type 0
CrossesTo (Ok there) (Ok moved) next = (moved ≡ quiet) × (next ≡ there)
CrossesTo (Ok there) (Err broken) next = ⊥
CrossesTo (Err none) result next = result ≡ Err (Meant stop.NoRoom)

-- what comes of an instruction, which is so many behind others, where the registers stand behind it
abbrev pub AfterLast : Went → ℕ → Calls → World → Result Moved Break → Next → Calls → Type 0
AfterLast went.On count c v (Ok moved) next d = (moved ≡ record { shown = shows.Nothing; turns = count }) × (next ≡ Executes) × (d ≡ c)
AfterLast (went.Asks n) count c v (Ok moved) next d = (moved ≡ record { shown = shows.Nothing; turns = count }) × (next ≡ Serves n) × (d ≡ c)
AfterLast went.Returned count c v (Ok moved) next d = (moved ≡ record { shown = shows.Nothing; turns = count }) × Returns c.given c.lower c v (Ok next) d
AfterLast went.Returned count c v (Err broken) next d = Returns c.given c.lower c v (Err broken) d
AfterLast (went.Stopped cause) count c v (Err broken) next d = broken ≡ Crashed c.regs.pc cause
AfterLast went.NoRoom count c v (Err broken) next d = broken ≡ Meant stop.NoRoom
AfterLast went count c v result next d = ⊥

-- so many instructions more than one: as many turns more
abbrev pub later : ℕ → Moved → Moved
later k moved = record { shown = moved.shown; turns = k + moved.turns }

-- the last of them is a move
abbrev pub LastMoves : ℕ → Image → Calls → World → Result Moved Break → Next → Calls → World → Type 0
LastMoves k i c w (Ok moved) next d v = (one : Moved) × (moved ≡ later k one) × Executed i c w (Ok one) next d v
LastMoves k i c w (Err broken) next d v = Executed i c w (Err broken) next d v

-- instructions that simply go on, so many, and one more that is a move; fewer than this many before the last
pub record ExecutesUpto (i : Image) (most : ℕ) (c : Calls) (w : World) (result : Result Moved Break) (next : Next) (d : Calls) (v : World) : Type 0 where
  pub count : ℕ
  pub few : count < most
  pub regs : Registers
  pub world : World
  pub ran : Ran i count c.regs w regs world
  pub last : LastMoves count i (with_registers regs c) world result next d v

-- a move; or instructions one after another, which are moves
abbrev pub MovesUpto : List Text → Image → ℕ → Next → Calls → World → Result Moved Break → Next → Calls → World → Type 0
MovesUpto texts i most Executes c w result next d v = ExecutesUpto i most c w result next d v
MovesUpto texts i most (Steps g) c w result next d v = Moves texts i (Steps g) c w result next d v
MovesUpto texts i most (Serves n) c w result next d v = Moves texts i (Serves n) c w result next d v

-- the move of a go that had taken so many turns; or no memory was left
abbrev pub MovedUpto : List Text → Image → ℕ → Next → Calls → World → ℕ → Result Shown Break → Next → Calls → World → ℕ → Type 0
MovedUpto texts i most next c w took (Ok now) after d v then = (turns : ℕ) × (then ≡ took + turns) × MovesUpto texts i most next c w (Ok (record { shown = now; turns = turns })) after d v
MovedUpto texts i most next c w took (Err broken) after d v then = (broken ≡ Meant stop.NoRoom) ⊎ MovesUpto texts i most next c w (Err broken) after d v

abbrev pub TurnsLeft : ℕ → ℕ → Option ℕ → Type 0
TurnsLeft turns took None = turns ≤ took
TurnsLeft turns took (Some left) = (left ≡ turns - took) × (0 < left)

abbrev pub standing_at : Image → Calls → World → Course → Standing
standing_at i c w course = record { world = w; image = i; calls = c; course = course }

-- where all the turns bring a run
abbrev pub Comes : List Text → Image → Want → Standing → Turned → Next → Calls → World → Type 0
Comes texts i want first (turned.Rests halt) next c w = (took : ℕ) × (now : Shown) × Reaches texts want first took (standing_on i c w next now) × (rests_in want took c w (On next now) ≡ Some halt)
Comes texts i want first (turned.Over broken) next c w = (took : ℕ) × Reaches texts want first took (standing_over i c w (ended_by broken))

-- where one move from a place brings a run, or moves that lie between, or a step of one instruction: to what is next, or to its end
abbrev pub came_to : Image → Result Shown Break → Next → Calls → World → Standing
came_to i (Ok now) next c w = standing_on i c w next now
came_to i (Err broken) next c w = standing_over i c w (ended_by broken)

-- the answer of the entry ends the run, or no memory was left
abbrev pub ComesBackSo : ℕ → World → MixedEnd → World → Type 0
ComesBackSo status w end v = ((end ≡ mixed.Meant (ended.Exit status)) × (v ≡ pass ComesBack w)) ⊎ (end ≡ mixed.Meant ended.NoRoom)

abbrev pub ClosesSo : Option ℕ → Next → World → Course → World → Type 0
ClosesSo None next w course v = (course ≡ On next shows.Nothing) × (v ≡ w)
ClosesSo (Some status) next w course v = (end : MixedEnd) × (course ≡ Over end) × ComesBackSo status w end v

-- a compiled entry is called
abbrev pub EntryInCode : Image → Key → Calls → World → Result (Next × Shown) Break → Calls → World → Type 0
EntryInCode i key c w (Ok first) d v = Calling i key [] c (pass GoesOut w) first.0 d v × (first.1 ≡ shows.Nothing)
EntryInCode i key c w (Err broken) d v = broken ≡ Meant stop.NoRoom

-- an interpreted one
abbrev pub EntryInSource : List Text → Key → Calls → World → Result (Next × Shown) Break → World → Type 0
EntryInSource texts key c w (Ok first) v = (g : Going) × (first.0 ≡ Steps g) × (entry_next texts key c.callers w ≡ state_of g c.callers v) × (first.1 ≡ entry_shown (entry_next texts key c.callers w))
EntryInSource texts key c w (Err (Meant stopped)) v = (e : Ending) → ending_of stopped v ≡ Some e → entry_next texts key c.callers w ≡ Ends e
EntryInSource texts key c w (Err (Crashed pc cause)) v = ⊥

abbrev pub EntryCalled : Bool → List Text → Image → Key → Calls → World → Result (Next × Shown) Break → Calls → World → Type 0
EntryCalled true texts i key c w result d v = EntryInCode i key c w result d v
EntryCalled false texts i key c w result d v = EntryInSource texts key c w result v × (d ≡ c)

-- one move leads there
abbrev pub LeadsOnce : List Text → Image → Next → Calls → World → Result Shown Break → Next → Calls → World → Type 0
LeadsOnce texts i next c w result after d v = (now : Shown) → (turns : ℕ) × Leads texts turns (standing_on i c w next now) (came_to i result after d v)
