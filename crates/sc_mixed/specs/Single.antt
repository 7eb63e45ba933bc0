-- Yardstick: to be compared with what it restates (docs/TRUST.md).
-- One instruction of compiled code, with the moves around it that are none: services, calls of the library, and crossings between the forms.
use Rattle.std.specs.Prelude.{◌≡◌, ℕ, suc, ◌==◌, Bool, true, false, ◌&&◌, not, List, [], ◌∷◌, ◌⊎◌, Option, Some, None}
use Rattle.std.specs.Option.{is_some}
use Rattle.sc_emu.specs.Machine.{return_address}
use Rattle.sc_meaning.specs.Versions.{Text}
use Rattle.sc_meaning.specs.World.{Frame, World}
use Rattle.sc_services.specs.Frames.{is_object}
use Rattle.sc_words.specs.declared.stop.StopAt.{StopAt}
use Rattle.sc_words.specs.declared.stop.Walk.TheVariants.{Cont}
use Rattle.sc_world.specs.declared.halt.Halt.{Halt}
use Rattle.sc_world.specs.Wants.{Want}
use Rattle.sc_mixed.specs.Goes.{Leads, halts_in, rested, want_from}
use Rattle.sc_mixed.specs.Standing.{IsLost, Standing}
use Rattle.sc_mixed.specs.declared.calls.Calls.{Calls}
use Rattle.sc_mixed.specs.declared.calls.Next.{Next}
use Rattle.sc_mixed.specs.declared.calls.Next.TheVariants.{Steps, Executes, Serves}
use Rattle.sc_mixed.specs.declared.course.Course.{Course}
use Rattle.sc_mixed.specs.declared.course.Course.TheVariants.{On, Over}

-- the innermost call runs as compiled code
abbrev pub in_object : List Frame → Bool
in_object [] = false
in_object (f ∷ fs) = is_object f.form

-- An instruction is next. Where calls from outside return to, none is: the way back to the callers is.
abbrev pub instruction_next : Next → Calls → Bool
instruction_next Executes c = not (c.regs.pc == return_address)
instruction_next (Steps g) c = false
instruction_next (Serves n) c = false

-- What is next is no instruction, and no step of an interpreted call: a service; the way back to the callers; or, where the innermost call is
-- one of compiled code, a call of the library that it makes, or the answer to a call that it made.
abbrev pub between_next : Next → Calls → World → Bool
between_next Executes c w = c.regs.pc == return_address
between_next (Steps g) c w = in_object w.frames
between_next (Serves n) c w = true

abbrev pub instruction_in : Course → Calls → Bool
instruction_in (On next now) c = instruction_next next c
instruction_in (Over end) c = false

abbrev pub between_in : Course → Calls → World → Bool
between_in (On next now) c w = between_next next c w
between_in (Over end) c w = false

-- where an instruction is next, the machine's pc is its address
abbrev pub IsPcOf : Standing → ℕ → Type 0
IsPcOf m pc = instruction_in m.course m.calls ≡ true → pc ≡ m.calls.regs.pc

-- nothing halts the run here
abbrev pub is_free : Want → Calls → World → Course → Bool
is_free want c w course = not (is_some (halts_in want c w course))

-- nothing halts it, and an instruction is next; or what lies between is
abbrev pub takes_instruction_in : Want → Calls → World → Course → Bool
takes_instruction_in want c w course = is_free want c w course && instruction_in course c

abbrev pub takes_between_in : Want → Calls → World → Course → Bool
takes_between_in want c w course = is_free want c w course && between_in course c w

abbrev pub takes_instruction : Want → Standing → Bool
takes_instruction want m = takes_instruction_in want m.calls m.world m.course

abbrev pub takes_between : Want → Standing → Bool
takes_between want m = takes_between_in want m.calls m.world m.course

-- Moves that lie between lead there, one after another.
pub data Settling (texts : List Text) (want : Want) (first : Standing) : Standing → Type 0 where
  settling_here : Settling texts want first first
  settling_further : (turns : ℕ) (m n : Standing) → Settling texts want first m → takes_between want m ≡ true → Leads texts turns m n → Settling texts want first n

-- All of them: something else is next, or the run halts.
pub record Settles (texts : List Text) (want : Want) (first last : Standing) : Type 0 where
  pub moves : Settling texts want first last
  pub ends : takes_between want last ≡ false

-- All that lies between, from where a pause left off. Where no instruction comes next then, that is all; else one, and what lies between then.
pub data Passes (texts : List Text) (want : Want) (first : Standing) : Standing → Type 0 where
  passes_none : (m : Standing) → Settles texts want first m → takes_instruction want m ≡ false → Passes texts want first m
  passes_one : (turns : ℕ) (m n o : Standing) → Settles texts want first m → takes_instruction want m ≡ true → Leads texts turns m n → Settles texts want n o → Passes texts want first o

-- A step of one instruction halts the run so, if at all, and leaves it there: at rest where it came to. Where it halts, and no room was left
-- for the run as it came to rest, nothing more is said of it.
pub data StepsOne (texts : List Text) (want : Want) (first : Standing) (result : Option Halt) (last : Standing) : Type 0 where
  steps_to : (m : Standing) → Passes texts want first m → halts_in want m.calls m.world m.course ≡ result → last ≡ rested m → StepsOne texts want first result last
  steps_lost : (m : Standing) (halt : Halt) → Passes texts want first m → halts_in want m.calls m.world m.course ≡ Some halt → result ≡ Some halt → IsLost last → StepsOne texts want first result last

-- by these stops alone
abbrev pub StepsOneTo : List Text → List StopAt → Standing → Option Halt → Standing → Type 0
StepsOneTo texts stops m result n = StepsOne texts (want_from stops Cont 0 m) m result n

-- Moves lead there, so many of which were instructions.
pub data Counts (texts : List Text) (first : Standing) : ℕ → Standing → Type 0 where
  counts_none : Counts texts first 0 first
  counts_other : (count turns : ℕ) (m n : Standing) → Counts texts first count m → instruction_in m.course m.calls ≡ false → Leads texts turns m n → Counts texts first count n
  counts_one : (count turns : ℕ) (m n : Standing) → Counts texts first count m → instruction_in m.course m.calls ≡ true → Leads texts turns m n → Counts texts first (suc count) n

abbrev pub CountsTo : List Text → Standing → ℕ → Standing → Type 0
CountsTo texts first count last = (m : Standing) × Counts texts first count m × (last ≡ rested m)

-- A step that does not halt the run carries out one instruction; or none, and then the innermost call is one of an interpreted module.
abbrev pub IsOne : List Text → Standing → Option Halt → Standing → Type 0
IsOne texts first result last = result ≡ None → CountsTo texts first 1 last ⊎ (CountsTo texts first 0 last × (in_object last.world.frames ≡ false))
