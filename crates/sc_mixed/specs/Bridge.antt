-- Yardstick: to be compared with what it restates (docs/TRUST.md).
-- From interpreted calls to compiled code, and back: what becomes of the calls and of the registers.
use Rattle.std.specs.Option.{is_some}
use Rattle.std.specs.Prelude.{◌≡◌, not, ℕ, ◌==◌, ◌&&◌, Bool, true, false, List, [], ◌∷◌, length, replicate, Option, Some, None, Result, Ok, Err}
use Rattle.sc_base.specs.declared.memory.Word.{Word}
use Rattle.sc_emu.specs.Machine.{return_address}
use Rattle.sc_emu.specs.Operations.{plain}
use Rattle.sc_emu.specs.Registers.{Registers, register, with_word}
use Rattle.sc_emu.specs.declared.outcome.Crash.TheVariants as crash
use Rattle.sc_base.specs.declared.key.Key.{Key}
use Rattle.sc_interp.specs.declared.going.Going.TheVariants.{Answers}
use Rattle.sc_interp_machine.specs.Runs.{Caller}
use Rattle.sc_isa_image.specs.Lookups.{value_of}
use Rattle.sc_isa_image.specs.declared.image.Image.{Image}
use Rattle.sc_meaning.specs.Expressions.{Answer, value_rule}
use Rattle.sc_meaning.specs.Values.{Value, Number, Pointer, FunctionAt}
use Rattle.sc_meaning.specs.Versions.{Text, Callee, Missing, InText, InLibrary, callee_of}
use Rattle.sc_meaning.specs.World.{World}
use Rattle.sc_services.specs.Arguments.{IsResult, PutsArguments}
use Rattle.sc_services.specs.Frames.{is_object, stack_top}
use Rattle.sc_services.specs.Passing.{StoresArguments}
use Rattle.sc_types.specs.declared.ctype.CType.{CType}
use Rattle.sc_mixed.specs.declared.broken.Break.{Break}
use Rattle.sc_mixed.specs.declared.broken.Break.TheVariants.{Crashed}
use Rattle.sc_mixed.specs.declared.calls.Calls.{Calls}
use Rattle.sc_mixed.specs.declared.calls.Lower.{Lower}
use Rattle.sc_mixed.specs.declared.calls.Lower.TheVariants.{InBodies, InCode}
use Rattle.sc_mixed.specs.declared.calls.Next.{Next}
use Rattle.sc_mixed.specs.declared.calls.Next.TheVariants.{Steps, Executes}

-- what is called is a function of compiled code
abbrev pub is_code : Callee → Bool
is_code Missing = false
is_code (InText t f) = is_object t.form
is_code (InLibrary f) = false

-- a value is a function of compiled code
abbrev pub names_code : List Text → Value → Bool
names_code texts (FunctionAt key) = is_code (callee_of texts key)
names_code texts (Number n) = false
names_code texts (Pointer o i) = false

-- the same, and a call of it in a text, by an operand of this type, breaks no rule
abbrev pub goes_to_code : List Text → Text → CType → Value → Bool
goes_to_code texts t s v = names_code texts v && not (is_some (value_rule texts t s v))

-- a register has another word; the next instruction is at another address
abbrev pub with_register : ℕ → Word → Registers → Registers
with_register n x r = record { pc = r.pc; words = with_word r.words n x }

abbrev pub at_address : ℕ → Registers → Registers
at_address pc r = record { pc = pc; words = r.words }

-- Compiled code goes on behind its call: all registers are as it called, but a0 has the word of the result, and the next instruction is
-- that to which ra leads.
abbrev pub behind_call : Word → Registers → Registers
behind_call x r = at_address (register r 1).bits (with_register 10 x r)

-- Compiled code begins at the stub of a function: sp is at the low end of the stack, and ra is where calls from outside return to.
abbrev pub at_stub : ℕ → ℕ → Registers → Registers
at_stub stub sp r = at_address stub (with_register 1 (plain return_address) (with_register 2 (plain sp) r))

-- Compiled code is called, where the arguments are in these registers: the callers wait below, with the stack pointer and the number of
-- active calls, and nothing is given yet.
abbrev pub calling_code : ℕ → World → Calls → Calls
calling_code stub w c = record { callers = []; lower = InBodies c.callers (stack_top w) (length w.frames) ∷ c.lower; given = None; regs = at_stub stub (stack_top w) c.regs }

-- the same calls with other registers
abbrev pub with_registers : Registers → Calls → Calls
with_registers r c = record { callers = c.callers; lower = c.lower; given = c.given; regs = r }

-- Compiled code is called at the stub of a function, with the words of the arguments in a0 to a7 and on the stack. An instruction is next.
pub record Calling (i : Image) (key : Key) (xs : List Value) (c : Calls) (w : World) (next : Next) (d : Calls) (v : World) : Type 0 where
  pub stub : ℕ
  pub stands : value_of i key ≡ Some stub
  pub regs : Registers
  pub puts : PutsArguments w 0 xs c.regs regs
  pub calls : d ≡ calling_code stub v (with_registers regs c)
  pub goes : next ≡ Executes
  pub stores : StoresArguments 0 xs w v

-- the stack pointer and the number of active calls are as compiled code was called
abbrev pub is_as_called : ℕ → ℕ → Registers → World → Bool
is_as_called sp depth r w = ((register r 2).bits == sp) && (length w.frames == depth)

-- where that holds the answer goes to the callers, else the run crashes where calls from outside return to
abbrev pub ReturnsTo : Bool → Answer → List Caller → Calls → Result Next Break → Calls → Type 0
ReturnsTo true a cs old result new =
    (result ≡ Ok (Steps (Answers a))) × (new ≡ record { callers = cs; lower = old.lower; given = old.given; regs = old.regs })
ReturnsTo false a cs old result new = result ≡ Err (Crashed return_address crash.Service)

-- what waits below with one thing less, and nothing given
abbrev pub without_top : List Lower → Calls → Calls
without_top ls c = record { callers = c.callers; lower = ls; given = None; regs = c.regs }

-- Compiled code returns: its outermost call has left and gave an answer, interpreted calls wait, and the stack is as it was called.
abbrev pub Returns : Option Answer → List Lower → Calls → World → Result Next Break → Calls → Type 0
Returns (Some a) (InBodies cs sp depth ∷ ls) old w result new = ReturnsTo (is_as_called sp depth old.regs w) a cs (without_top ls old) result new
Returns (Some a) (InCode r given ∷ ls) old w result new = result ≡ Err (Crashed return_address crash.Service)
Returns (Some a) [] old w result new = result ≡ Err (Crashed return_address crash.Service)
Returns None ls old w result new = result ≡ Err (Crashed return_address crash.Service)

-- Compiled code waits for a call that it makes, with its registers and what it gave.
abbrev pub waiting : Calls → Calls
waiting c = record { callers = c.callers; lower = InCode c.regs c.given ∷ c.lower; given = None; regs = record { pc = 0; words = replicate 32 (plain 0) } }

-- what the outermost call of compiled code gave
abbrev pub with_given : Option Answer → Calls → Calls
with_given given c = record { callers = c.callers; lower = c.lower; given = given; regs = c.regs }

-- compiled code is behind its call
abbrev pub Resumes : World → Answer → Registers → Option Answer → List Lower → Calls → Next → Calls → Type 0
Resumes w a r given ls c next d =
    (next ≡ Executes) × ((x : Word) × IsResult w a x × (d ≡ record { callers = c.callers; lower = ls; given = given; regs = behind_call x r }))

-- The answer of the last interpreted call goes to what waits below: to interpreted calls, or to compiled code behind its call. Where
-- nothing waits it is the run's.
abbrev pub GivesBack : World → Answer → List Lower → Calls → Next → Calls → Type 0
GivesBack w a [] c next d = (next ≡ Steps (Answers a)) × (d ≡ c)
GivesBack w a (InBodies cs sp depth ∷ ls) c next d = (next ≡ Steps (Answers a)) × (d ≡ record { callers = cs; lower = ls; given = c.given; regs = c.regs })
GivesBack w a (InCode r given ∷ ls) c next d = Resumes w a r given ls c next d
