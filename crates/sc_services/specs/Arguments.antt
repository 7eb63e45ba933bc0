-- Yardstick: to be compared with what it restates (docs/TRUST.md).
-- The arguments and the result of a call that crosses between the forms: what a word stands for, and in which registers words are.
use Rattle.std.specs.Prelude.{◌≡◌, ◌≢◌, ℕ, ◌+◌, ◌-◌, ◌*◌, ◌<◌, ◌==◌, ◌&&◌, ◌||◌, nat_lt, nat_le, not, Bool, true, false, if◌then◌else◌, List, [], ◌∷◌, length, slice_get, slice_index_or, Option, Some, None}
use Rattle.sc_base.specs.declared.memory.Word.{Word}
use Rattle.sc_core.specs.declared.module.Fun.{Fun}
use Rattle.sc_emu.specs.Operations.{plain}
use Rattle.sc_emu.specs.Registers.{Registers, register, with_word}
use Rattle.sc_meaning.specs.Expressions.{Answer, Plain, Place, Part, Nothing}
use Rattle.sc_meaning.specs.Signatures.{is_variadic, shapes_of}
use Rattle.sc_meaning.specs.Values.{Value, Number, FunctionAt, Pointer}
use Rattle.sc_meaning.specs.Versions.{Callee, Missing, InText, InLibrary}
use Rattle.sc_meaning.specs.World.{World}
use Rattle.sc_meaning.specs.declared.library.LibFun.{LibFun}
use Rattle.sc_services.specs.Frames.{is_object, stack_top}
use Rattle.sc_services.specs.Memory.{IsValueAt, IsWordAt, read_at}

-- A word stands for a number exactly where it has no tag, and then for its own. A function's word has the functions' tag, that of a place in
-- an object the object's number.
abbrev pub stands : Word → Value → Bool
stands x (Number n) = (x.tag == 0) && (x.bits == n)
stands x (FunctionAt key) = x.tag == 4294967295
stands x (Pointer o i) = if o == 0 then not (x.tag == 0) else x.tag == o

-- a value is what a word stands for in the memory of a run; and a word is that of a value
abbrev pub IsValueOf : World → Word → Value → Type 0
IsValueOf w x v = (stands x v ≡ true) × IsValueAt w x v

abbrev pub IsWordOf : World → Value → Word → Type 0
IsWordOf w v x = (stands x v ≡ true) × IsWordAt w v x

-- the word of what a call gave: 0 where it gave no value
abbrev pub IsResult : World → Answer → Word → Type 0
IsResult w (Plain v) x = IsWordOf w v x
IsResult w (Place p) x = x ≡ plain 0
IsResult w (Part v n) x = x ≡ plain 0
IsResult w Nothing x = x ≡ plain 0

-- how many of so many arguments registers have no room for
abbrev pub beyond : ℕ → ℕ
beyond count = count - 8

-- the words of these stand inside the stack, from the low end of what is used up
abbrev pub are_inside : ℕ → World → Bool
are_inside count w = (beyond count == 0) || nat_le (stack_top w + 4 * beyond count) 0x20000000

-- the word of argument k: that of its register, or the one that stands at its place on the stack
abbrev pub argument_word : ℕ → Registers → World → Option Word
argument_word k r w = if nat_lt k 8 then Some (register r (10 + k)) else read_at w (stack_top w + 4 * (k - 8)) 4

-- a value is argument k
abbrev pub IsArgument : ℕ → Registers → World → Value → Type 0
IsArgument k r w v = (x : Word) × (argument_word k r w ≡ Some x) × IsValueOf w x v

-- Values are the arguments of a call that goes out of compiled code: as many as are asked for, inside the stack, and each is what its word
-- stands for.
pub record AreArguments (count : ℕ) (r : Registers) (w : World) (vs : List Value) : Type 0 where
  pub many : length vs ≡ count
  pub inside : are_inside count w ≡ true
  pub each : (k : ℕ) (v : Value) → slice_get vs k ≡ Some v → IsArgument k r w v

-- so they are where there are any; else those past the eighth are not inside the stack
abbrev pub GivesArguments : ℕ → Registers → World → Option (List Value) → Type 0
GivesArguments count r w None = are_inside count w ≡ false
GivesArguments count r w (Some vs) = AreArguments count r w vs

-- argument k is put into its register, if it has one
abbrev pub with_argument : ℕ → Word → Registers → Registers
with_argument k x r = if nat_lt k 8 then record { pc = r.pc; words = with_word r.words (10 + k) x } else r

-- the word of a value is put where argument k goes
abbrev pub PutsOne : World → ℕ → Value → Registers → Registers → Type 0
PutsOne w k v r s = (x : Word) × IsWordOf w v x × (s ≡ with_argument k x r)

-- the words of these values, from argument k on, are put into registers one after another, and nothing else is
abbrev pub PutsArguments : World → ℕ → List Value → Registers → Registers → Type 0
PutsArguments w k [] r s = s ≡ r
PutsArguments w k (v ∷ vs) r s = (x : Word) × IsWordOf w v x × PutsArguments w (k + 1) vs (with_argument k x r) s

-- how many arguments a function of the library takes: as many as it has parameters; of `printf` the caller says it in t2
abbrev pub arity_unless : Bool → LibFun → Registers → ℕ
arity_unless true f r = (register r 7).bits
arity_unless false f r = length (shapes_of f) - 1

abbrev pub arity : LibFun → Registers → ℕ
arity f r = arity_unless (is_variadic f) f r

abbrev pub parameter_count : Fun → ℕ
parameter_count f = length (slice_index_or f.blocks 0 [])

-- how many arguments go to what is called out of compiled code; none does where nothing is there, which has no answer, and a compiled
-- function is not called so
abbrev pub argument_count : Registers → Callee → Option ℕ
argument_count r Missing = Some 0
argument_count r (InLibrary f) = Some (arity f r)
argument_count r (InText t f) = if is_object t.form then None else Some (parameter_count f)
