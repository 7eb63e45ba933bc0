-- Machine: the program once more; a theorem ties it to a yardstick (docs/TRUST.md).
-- The machine of a run of both forms: one move, by what comes next. Interpreted calls go by the meaning's step as it stands, compiled ones by
-- instructions and services, and the bridge between them is a move of its own. Where memory ran out nothing is said.
use Rattle.std.specs.Prelude.{◌≡◌, ◌⊎◌, ⊤, ℕ, ◌+◌, ◌-◌, ◌≤◌, ◌==◌, if◌then◌else◌, Bool, true, false, List, [], ◌∷◌, length, Result, Ok, Err, Option, Some, None}
use Rattle.sc_base.specs.declared.key.Key.{Key}
use Rattle.sc_emu.specs.Registers.{Registers, register}
use Rattle.sc_emu.specs.declared.outcome.Crash.{Crash}
use Rattle.sc_interp.specs.Shows.{entry_shown, shown}
use Rattle.sc_interp.specs.Steady.{advance, alone, called_next}
use Rattle.sc_interp.specs.declared.going.Going.{Going}
use Rattle.sc_interp.specs.declared.going.Going.TheVariants as going
use Rattle.sc_interp.specs.declared.stepped.Shown.{Shown}
use Rattle.sc_interp.specs.declared.stepped.Shown.TheVariants as shows
use Rattle.sc_interp_access.specs.Gives.{ending_of}
use Rattle.sc_interp_access.specs.declared.stop.Stop.TheVariants as stop
use Rattle.sc_interp_machine.specs.Runs.{Caller, State, Ends}
use Rattle.sc_interp_world.specs.Outputs.{bytes_moved}
use Rattle.sc_isa_image.specs.declared.image.Image.{Image}
use Rattle.sc_meaning.specs.Expressions.{Answer, Plain, Nothing}
use Rattle.sc_meaning.specs.Outcomes.{Ending}
use Rattle.sc_meaning.specs.Values.{Value, Number, Pointer, FunctionAt}
use Rattle.sc_meaning.specs.Versions.{Text, callee_of}
use Rattle.sc_meaning.specs.World.{World}
use Rattle.sc_services.specs.Arguments.{IsValueOf}
use Rattle.sc_services.specs.Calling.{AsksFor}
use Rattle.sc_services.specs.Copying.{CopiesBytes}
use Rattle.sc_services.specs.Entering.{EntersAt}
use Rattle.sc_services.specs.Leaving.{Leaves}
use Rattle.sc_services.specs.Tagging.{Tags}
use Rattle.sc_services.specs.declared.calling.Asked.TheVariants as asked
use Rattle.sc_services.specs.declared.copying.Copied.TheVariants as copied
use Rattle.sc_services.specs.declared.entering.Entered.{Entered}
use Rattle.sc_services.specs.declared.entering.Entered.TheVariants as entered
use Rattle.sc_services.specs.declared.leaving.Left.{Left}
use Rattle.sc_services.specs.declared.leaving.Left.TheVariants as left
use Rattle.sc_services.specs.declared.served.Served.TheVariants as served
use Rattle.sc_world.specs.Costs.{cost, is_back, touched}
use Rattle.sc_world.specs.Standing.{state_of}
use Rattle.sc_mixed.specs.Bridge.{Calling, GivesBack, Returns, goes_to_code, waiting, with_given, with_registers}
use Rattle.sc_mixed.specs.Instructions.{Instruction}
use Rattle.sc_mixed.specs.Serving.{IsHere, service}
use Rattle.sc_mixed.specs.declared.broken.Break.{Break}
use Rattle.sc_mixed.specs.declared.broken.Break.TheVariants.{Meant, Crashed}
use Rattle.sc_mixed.specs.declared.calls.Calls.{Calls}
use Rattle.sc_mixed.specs.declared.calls.Lower.{Lower}
use Rattle.sc_mixed.specs.declared.calls.Lower.TheVariants.{InBodies, InCode}
use Rattle.sc_mixed.specs.declared.calls.Moved.{Moved}
use Rattle.sc_mixed.specs.declared.calls.Next.{Next}
use Rattle.sc_mixed.specs.declared.calls.Next.TheVariants.{Steps, Executes, Serves}
use Rattle.sc_mixed.specs.declared.execute.Went.{Went}
use Rattle.sc_mixed.specs.declared.execute.Went.TheVariants as went
use Rattle.sc_mixed.specs.declared.service.Service.{Service}
use Rattle.sc_mixed.specs.declared.service.Service.TheVariants.{Call, Enter, Leave, Tag, Copy, Fall, Unknown}
use Rattle.sc_mixed.specs.declared.moves.Way.{Way}
use Rattle.sc_mixed.specs.declared.moves.Way.TheVariants.{Stays, ToCode, Back}

-- a move that shows nothing and touches no byte
abbrev pub quiet : Moved
quiet = record { shown = shows.Nothing; turns = 1 }

-- memory alone ended it
abbrev pub LacksRoom : Break → Type 0
LacksRoom broken = broken ≡ Meant stop.NoRoom

-- ---- a step of interpreted calls

-- the machine goes on with this state, and so does the run: nothing changes of what waits below, of what was given, and of the registers
pub record GoesOn (s t : State) (now : Shown) (moved : Moved) (c : Calls) (next : Next) (d : Calls) (v : World) : Type 0 where
  pub going : Going
  pub goes : next ≡ Steps going
  pub state : t ≡ state_of going d.callers v
  pub below : d ≡ record { callers = d.callers; lower = c.lower; given = c.given; regs = c.regs }
  pub shown : moved.shown ≡ now
  pub turns : moved.turns ≡ cost s t

-- the step of the meaning's machine, what it shows and what it costs; where it ends the run, so it does here
abbrev pub StepsFrom : List Text → State → Calls → Result Moved Break → Next → Calls → World → Type 0
StepsFrom texts s c (Ok moved) next d v = GoesOn s (advance (alone texts) texts s) (shown (alone texts) texts s) moved c next d v
StepsFrom texts s c (Err (Meant stopped)) next d v = (e : Ending) → ending_of stopped v ≡ Some e → advance (alone texts) texts s ≡ Ends e
StepsFrom texts s c (Err (Crashed pc cause)) next d v = ⊥

-- ---- from interpreted calls to compiled code, and back

-- a call that breaks no rule goes to compiled code where its function has that form; an answer goes to what waits below where no caller waits
abbrev pub way_if : Bool → Way
way_if true = ToCode
way_if false = Stays

abbrev pub way_among : List Caller → Way
way_among [] = Back
way_among (c ∷ cs) = Stays

abbrev pub way : List Text → Going → Calls → Way
way texts (going.Runs doing ss env a) c = Stays
way texts (going.Makes t x xs caller) c = way_if (goes_to_code texts caller.env.text t x)
way texts (going.Answers a) c = way_among c.callers

-- the caller waits, and compiled code is called
abbrev pub CallsValue : Image → Value → List Value → Calls → World → Next → Calls → World → Type 0
CallsValue i (FunctionAt key) xs c w next d v = Calling i key xs c w next d v
CallsValue i (Number n) xs c w next d v = ⊥
CallsValue i (Pointer o n) xs c w next d v = ⊥

abbrev pub with_caller : Caller → Calls → Calls
with_caller caller c = record { callers = caller ∷ c.callers; lower = c.lower; given = c.given; regs = c.regs }

abbrev pub CallsCode : Image → Going → Calls → World → Next → Calls → World → Type 0
CallsCode i (going.Makes t x xs caller) c w next d v = CallsValue i x xs (with_caller caller c) w next d v
CallsCode i (going.Runs doing ss env a) c w next d v = ⊥
CallsCode i (going.Answers a) c w next d v = ⊥

abbrev pub GivesAnswer : World → Going → Calls → Next → Calls → Type 0
GivesAnswer w (going.Answers a) c next d = GivesBack w a c.lower c next d
GivesAnswer w (going.Runs doing ss env a) c next d = ⊥
GivesAnswer w (going.Makes t x xs caller) c next d = ⊥

abbrev pub Crosses : Way → Image → Going → Calls → World → Next → Calls → World → Type 0
Crosses Stays i g c w next d v = ⊥
Crosses ToCode i g c w next d v = CallsCode i g c w next d v
Crosses Back i g c w next d v = GivesAnswer w g c next d × (v ≡ w)

abbrev pub CrossesIfRoom : Way → Image → Going → Calls → World → Result Moved Break → Next → Calls → World → Type 0
CrossesIfRoom way i g c w (Ok moved) next d v = (moved ≡ quiet) × Crosses way i g c w next d v
CrossesIfRoom way i g c w (Err broken) next d v = LacksRoom broken

abbrev pub GoesBy : Way → List Text → Image → Going → Calls → World → Result Moved Break → Next → Calls → World → Type 0
GoesBy Stays texts i g c w result next d v = StepsFrom texts (state_of g c.callers w) c result next d v
GoesBy ToCode texts i g c w result next d v = CrossesIfRoom ToCode i g c w result next d v
GoesBy Back texts i g c w result next d v = CrossesIfRoom Back i g c w result next d v

-- ---- an instruction

-- It goes on, asks for a service, or stands where calls from outside return to: then the answer goes to those that wait.
abbrev pub Follows : Went → Registers → Calls → World → Next → Calls → Type 0
Follows went.On r c v next d = (next ≡ Executes) × (d ≡ with_registers r c)
Follows (went.Asks n) r c v next d = (next ≡ Serves n) × (d ≡ with_registers r c)
Follows went.Returned r c v next d = Returns c.given c.lower (with_registers r c) v (Ok next) d
Follows (went.Stopped cause) r c v next d = ⊥
Follows went.NoRoom r c v next d = ⊥

-- It has no next state, at its own address, or the test at the return fails.
abbrev pub Fails : Went → Registers → Calls → World → ℕ → Crash → Calls → Type 0
Fails (went.Stopped cause) r c v pc crash d = (pc ≡ c.regs.pc) × (crash ≡ cause)
Fails went.Returned r c v pc crash d = Returns c.given c.lower (with_registers r c) v (Err (Crashed pc crash)) d
Fails went.On r c v pc crash d = ⊥
Fails (went.Asks n) r c v pc crash d = ⊥
Fails went.NoRoom r c v pc crash d = ⊥

abbrev pub Executed : Image → Calls → World → Result Moved Break → Next → Calls → World → Type 0
Executed i c w (Ok moved) next d v = (moved ≡ quiet) × ((how : Went) × (r : Registers) × Instruction i c.regs w how r v × Follows how r c v next d)
Executed i c w (Err (Crashed pc crash)) next d v = (how : Went) × (r : Registers) × Instruction i c.regs w how r v × Fails how r c v pc crash d
Executed i c w (Err (Meant stopped)) next d v = stopped ≡ stop.NoRoom

-- ---- the service of the `ecall` behind which the registers stand

-- what a call of a function makes of a world, where these callers wait; a missing one breaks off as where interpreted code calls it
abbrev pub called_state : List Text → Key → List Value → List Caller → World → State
called_state texts key xs cs w = called_next (alone texts) key xs (callee_of texts key) cs w

-- it shows that a function of a text was entered, and costs a turn and the bytes that it touches
pub record IsCallMoved (s : State) (w : World) (moved : Moved) (v : World) : Type 0 where
  pub shown : moved.shown ≡ entry_shown s
  pub turns : moved.turns ≡ 1 + touched (is_back s) w 0 v

-- a call of compiled code goes on with what it calls, as an interpreted one would; the code waits for it
pub record CallsOut (texts : List Text) (i : Image) (c : Calls) (w : World) (moved : Moved) (next : Next) (d : Calls) (v : World) : Type 0 where
  pub key : Key
  pub arguments : List Value
  pub asks : AsksFor i texts c.regs w (asked.Call key arguments)
  pub going : Going
  pub goes : next ≡ Steps going
  pub state : called_state texts key arguments c.callers w ≡ state_of going c.callers v
  pub costs : IsCallMoved (called_state texts key arguments c.callers w) w moved v
  pub waits : d ≡ waiting c

abbrev pub ServesCall : List Text → Image → Calls → World → Result Moved Break → Next → Calls → World → Type 0
ServesCall texts i c w (Ok moved) next d v = CallsOut texts i c w moved next d v
ServesCall texts i c w (Err (Meant stopped)) next d v = (e : Ending) → ending_of stopped v ≡ Some e → (key : Key) × (xs : List Value) × AsksFor i texts c.regs w (asked.Call key xs) × (called_state texts key xs c.callers w ≡ Ends e)
ServesCall texts i c w (Err (Crashed pc cause)) next d v = AsksFor i texts c.regs w asked.Refused × IsHere c.regs pc cause × (v ≡ w)

-- an instruction is next, and the calls are the same
abbrev pub GoesOnSo : Calls → Next → Calls → Type 0
GoesOnSo c next d = (next ≡ Executes) × (d ≡ c)

abbrev pub entered_shown : Entered → Shown
entered_shown entered.Call = shows.Entered
entered_shown entered.Block = shows.Nothing
entered_shown entered.Refused = shows.Nothing

-- a call or a block was entered
abbrev pub IsEntered : Entered → Moved → World → World → Type 0
IsEntered entered.Refused moved w v = ⊥
IsEntered how moved w v = (moved.shown ≡ entered_shown how) × (moved.turns ≡ 1 + (bytes_moved v.trail - bytes_moved w.trail))

abbrev pub ServesEnter : List Text → Image → Calls → World → Result Moved Break → World → Type 0
ServesEnter texts i c w (Ok moved) v = (how : Entered) × EntersAt texts i c.regs w (Ok how) v × IsEntered how moved w v
ServesEnter texts i c w (Err (Meant stopped)) v = (e : Ending) → ending_of stopped v ≡ Some e → EntersAt texts i c.regs w (Err stopped) v
ServesEnter texts i c w (Err (Crashed pc cause)) v = EntersAt texts i c.regs w (Ok entered.Refused) v × IsHere c.regs pc cause

-- how many calls were active as the innermost compiled code was called
abbrev pub depth_of : List Lower → ℕ
depth_of [] = 0
depth_of (InBodies cs sp depth ∷ ls) = depth
depth_of (InCode r given ∷ ls) = 0

-- what the outermost call of the innermost compiled code gives is kept as it leaves
abbrev pub given_by : Answer → Calls → World → Calls
given_by a c v = if length v.frames == depth_of c.lower then with_given (Some a) c else c

abbrev pub left_calls : Left → Answer → Calls → World → Calls
left_calls left.Call a c v = given_by a c v
left_calls left.Block a c v = c
left_calls left.Refused a c v = c

abbrev pub IsLeft : Left → Type 0
IsLeft left.Call = ⊤
IsLeft left.Block = ⊤
IsLeft left.Refused = ⊥

-- a block is left, and with the first one the call, which gives this
abbrev pub LeavesWith : ℕ → Answer → Calls → World → Result Moved Break → Calls → World → Type 0
LeavesWith block a c w (Ok moved) d v = (moved ≡ quiet) × ((how : Left) × Leaves block w how v × IsLeft how × (d ≡ left_calls how a c v))
LeavesWith block a c w (Err (Meant stopped)) d v = stopped ≡ stop.NoRoom
LeavesWith block a c w (Err (Crashed pc cause)) d v = Leaves block w left.Refused v × IsHere c.regs pc cause

-- the value that a0 stands for; or nothing
abbrev pub ServesLeave : Calls → World → Result Moved Break → Calls → World → Type 0
ServesLeave c w (Err (Meant stopped)) d v = stopped ≡ stop.NoRoom
ServesLeave c w result d v = (x : Value) × IsValueOf w (register c.regs 10) x × LeavesWith (register c.regs 6).bits (Plain x) c w result d v

abbrev pub ServesFall : Calls → World → Result Moved Break → Calls → World → Type 0
ServesFall c w result d v = LeavesWith 0 Nothing c w result d v

abbrev pub ServesTag : Calls → World → Result Moved Break → Calls → Type 0
ServesTag c w (Ok moved) d = (moved ≡ quiet) × ((r : Registers) × Tags c.regs w served.Done r × (d ≡ with_registers r c))
ServesTag c w (Err (Meant stopped)) d = ⊥
ServesTag c w (Err (Crashed pc cause)) d = Tags c.regs w served.Refused c.regs × IsHere c.regs pc cause

abbrev pub ServesCopy : Calls → World → Result Moved Break → World → Type 0
ServesCopy c w (Ok moved) v = (n : ℕ) × CopiesBytes c.regs w (copied.Bytes n) v × (moved ≡ record { shown = shows.Nothing; turns = 1 + n })
ServesCopy c w (Err (Meant stopped)) v = stopped ≡ stop.NoRoom
ServesCopy c w (Err (Crashed pc cause)) v = CopiesBytes c.regs w copied.Refused v × IsHere c.regs pc cause

-- there is no service with this number
abbrev pub ServesNone : Calls → Result Moved Break → Type 0
ServesNone c (Ok moved) = ⊥
ServesNone c (Err (Meant stopped)) = ⊥
ServesNone c (Err (Crashed pc cause)) = IsHere c.regs pc cause

-- an instruction is next where the run goes on
abbrev pub NextIfOn : Result Moved Break → Next → Type 0
NextIfOn (Ok moved) next = next ≡ Executes
NextIfOn (Err broken) next = ⊤

-- the calls stay where the run goes on
abbrev pub StaysIfOn : Result Moved Break → Calls → Calls → Type 0
StaysIfOn (Ok moved) c d = d ≡ c
StaysIfOn (Err broken) c d = ⊤

-- the service; behind all but a call an instruction is next
abbrev pub ServedBy : Service → List Text → Image → Calls → World → Result Moved Break → Next → Calls → World → Type 0
ServedBy Call texts i c w result next d v = ServesCall texts i c w result next d v
ServedBy Enter texts i c w result next d v = ServesEnter texts i c w result v × StaysIfOn result c d × NextIfOn result next
ServedBy Leave texts i c w result next d v = ServesLeave c w result d v × NextIfOn result next
ServedBy Tag texts i c w result next d v = ServesTag c w result d × (v ≡ w) × NextIfOn result next
ServedBy Copy texts i c w result next d v = ServesCopy c w result v × StaysIfOn result c d × NextIfOn result next
ServedBy Fall texts i c w result next d v = ServesFall c w result d v × NextIfOn result next
ServedBy Unknown texts i c w result next d v = ServesNone c result × (v ≡ w)

-- ---- one move

-- From what comes next, the calls and the world: what the move shows and how many turns it takes, or why it is not done; and what comes next
-- then, the calls and the world.
abbrev pub Moves : List Text → Image → Next → Calls → World → Result Moved Break → Next → Calls → World → Type 0
Moves texts i (Steps g) c w result next d v = GoesBy (way texts g c) texts i g c w result next d v
Moves texts i Executes c w result next d v = Executed i c w result next d v
Moves texts i (Serves n) c w result next d v = ServedBy (service n) texts i c w result next d v
