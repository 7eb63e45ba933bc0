-- Inside: plumbing, a representation, an invariant or a promise beside the claim (docs/TRUST.md).
-- Lists of instructions, each of which is a move of the machine, or no step of it; and the goes that they make.
use Rattle.std.specs.Prelude.{◌≡◌, ℕ, zero, suc, ◌+◌, ◌-◌, ◌≤◌, ◌&&◌, Bool, true, false, List, Some, None}
use Rattle.sc_meaning.specs.World.{World, work}
use Rattle.sc_meaning.specs.Outcomes.{Outcome, Done, Over, Ending, world_at}
use Rattle.sc_meaning.specs.Versions.{Text}
use Rattle.sc_interp.specs.Shows.{shown}
use Rattle.sc_interp.specs.declared.stepped.Shown.{Shown}
use Rattle.sc_interp.specs.declared.stepped.Shown.TheVariants.{Nothing}
use Rattle.sc_interp.specs.Steady.{alone, advance, ran}
use Rattle.sc_interp_machine.specs.Runs.{State, Ends}
use Rattle.sc_interp_world.specs.Outputs.{bytes_moved}
use Rattle.sc_world.specs.declared.halt.Halt.{Halt}
use Rattle.sc_world.specs.Costs.{is_call, is_back, statements_ended}
use Rattle.sc_world.specs.Moves.{Silent, touches}
use Rattle.sc_world.specs.Standing.{Standing}
use Rattle.sc_world.specs.Wants.{Want, rests}
use Rattle.sc_points.specs.Points.{Frame, Point, Call, state_at, Went, Goes, Breaks, Acts, Tells}

-- where a list stands: in a call at a place of it, with what the frame holds; or at the end of the run
pub data Where : Type 0 where
  On : Call → ℕ → Frame → World → Where
  Ended : Ending → Where

-- what an instruction does: where the list goes on, how many steps of the machine that is, what the last of them shows, and the bytes that
-- they touch
pub record Deed : Type 0 where
  pub next : Where
  pub steps : ℕ
  pub shown : Shown
  pub bytes : ℕ

abbrev pub Instructions : Type 0
Instructions = Call → ℕ → Frame → World → Deed

-- what is kept at each place
abbrev pub Invariant : Type 1
Invariant = Call → ℕ → Frame → World → Type 0

-- the machine's state there
abbrev pub state_of : (ℕ → Point) → Where → State
state_of points (On c i f w) = state_at c (points i) f w
state_of points (Ended e) = Ends e

-- From a state so many steps are one move, which shows this and touches so many bytes; or there is none.
abbrev pub IsMove : List Text → State → ℕ → Shown → ℕ → Type 0
IsMove texts s zero now bytes = Unit {0}
IsMove texts s (suc k) now bytes =
    (k ≤ 7) × Silent k texts s × (shown (alone texts) texts (ran k (alone texts) texts s) ≡ now) × (touches (suc k) texts s ≡ bytes)

-- what an instruction does in a state is what the machine does there
abbrev pub IsMade : List Text → (ℕ → Point) → State → Deed → Type 0
IsMade texts points s d = (ran d.steps (alone texts) texts s ≡ state_of points d.next) × IsMove texts s d.steps d.shown d.bytes

abbrev pub Keeps : Invariant → Where → Type 0
Keeps holds (On c i f w) = holds c i f w
Keeps holds (Ended e) = Unit {0}

-- Each instruction is a move of the machine, or no step of it, from the point of its place to that of the place where the list goes on; and
-- what is kept at the one is kept at the other.
abbrev pub Moving : List Text → (ℕ → Point) → Invariant → Instructions → Type 0
Moving texts points holds does = (c : Call) (i : ℕ) (f : Frame) (w : World) → holds c i f w → IsMade texts points (state_at c (points i) f w) (does c i f w) × Keeps holds (does c i f w).next

-- so many instructions from a place on are what the machine does
abbrev pub AreMade : List Text → (ℕ → Point) → Instructions → ℕ → Where → Type 0
AreMade texts points does zero at = Unit {0}
AreMade texts points does (suc n) (On c i f w) = IsMade texts points (state_at c (points i) f w) (does c i f w) × AreMade texts points does n (does c i f w).next
AreMade texts points does (suc n) (Ended e) = Unit {0}

-- ---- what one instruction is

-- a call is over in none of so many steps, in which it would have been made too
abbrev pub AreCalm : ℕ → List Text → State → Type 0
AreCalm zero texts s = Unit {0}
AreCalm (suc k) texts s = ((is_call s && is_back (advance (alone texts) texts s)) ≡ false) × AreCalm k texts (advance (alone texts) texts s)

-- From one point so many steps and one more, which are one move, lead to the other: the last of them shows this, and no call is over in any.
abbrev pub Moves : List Text → ℕ → Point → (Frame → World → Went) → Shown → Point → Type 0
Moves texts k p does now q = Acts texts (suc k) p does q × Tells texts k p now × ((c : Call) (f : Frame) (w : World) → AreCalm (suc k) texts (state_at c p f w))

-- the bytes of the births and copies from one world to a later one
abbrev pub moved_between : World → World → ℕ
moved_between w v = bytes_moved v.trail - bytes_moved w.trail

-- an instruction that goes on at a place, with what it left of the frame and the world
abbrev pub deed : Call → ℕ → ℕ → Shown → World → Went → Deed
deed c i k now w (Goes f v) = record { next = On c i f v; steps = k; shown = now; bytes = moved_between w v }
deed c i k now w (Breaks e) = record { next = Ended e; steps = k; shown = now; bytes = moved_between w (world_at e) }

-- A call that ends the run in the step that makes it: it went out in this world. The bytes are the work that was done in it, but for the
-- statements that an exit ends.
abbrev pub ended_call : World → Ending → Deed
ended_call out e = record { next = Ended e; steps = 2; shown = Nothing; bytes = work (world_at e).trail - work out.trail - statements_ended e }

-- an instruction that tests, and goes on at one place or the other
abbrev pub forked : Call → ℕ → (World → Went) → ℕ → (World → Went) → World → Outcome Bool → Deed
forked c i on j off w (Done true v) = deed c i 1 Nothing w (on v)
forked c i on j off w (Done false v) = deed c j 1 Nothing w (off v)
forked c i on j off w (Over e) = deed c i 1 Nothing w (Breaks e)

-- ---- a go of a list

-- where a list stands, what its last instruction showed and no go looked at yet, and the steps and the turns so far
pub record Stand : Type 0 where
  pub at : Where
  pub shown : Shown
  pub steps : ℕ
  pub turns : ℕ

-- the run as the machine has it
abbrev pub standing_of : (ℕ → Point) → Stand → Standing
standing_of points x = record { state = state_of points x.at; shown = x.shown; steps = x.steps; turns = x.turns }

-- An instruction takes one turn, and one more for each byte that it touches; one that is no step of the machine takes none.
abbrev pub behind : Stand → Where → ℕ → Shown → ℕ → Stand
behind x next zero now bytes = record x { at = next }
behind x next (suc k) now bytes = record { at = next; shown = now; steps = x.steps + suc k; turns = x.turns + (1 + bytes) }

abbrev pub acted : Instructions → Where → Stand → Stand
acted does (On c i f w) x = behind x (does c i f w).next (does c i f w).steps (does c i f w).shown (does c i f w).bytes
acted does (Ended e) x = x

-- what was shown is looked at once
abbrev pub looked : Stand → Stand
looked x = record x { shown = Nothing }

-- A go of a list halts for this and leaves it there: it rests where it stands, or goes on with an instruction.
pub data ListGoneBy (points : ℕ → Point) (does : Instructions) (want : Want) (halt : Halt) (last : Stand) : Stand → Type 0 where
  stays : (x : Stand) → rests want (standing_of points x) ≡ Some halt → last ≡ looked x → ListGoneBy points does want halt last x
  goes : (x : Stand) → rests want (standing_of points x) ≡ None → ListGoneBy points does want halt last (acted does x.at x) → ListGoneBy points does want halt last x
