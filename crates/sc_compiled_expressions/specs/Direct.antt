-- Inside: plumbing, a representation, an invariant or a promise beside the claim (docs/TRUST.md).
-- Places without code of their own: what their names stand for, their words, and the instruction that is done at them; and when a register gets the
-- value of an expression.
use Rattle.std.specs.Prelude.{◌≡◌, ◌⊎◌, ⊤, ℕ, ◌+◌, ◌*◌, ◌^◌, ◌<◌, ◌==◌, true, false, ℤ, slice_get, length, Option, Some, None}
use Rattle.sc_base.specs.declared.key.Key.{Key}
use Rattle.sc_base.specs.declared.memory.Word.{Word}
use Rattle.sc_core.specs.declared.expression.CoreExpr.{CoreExpr}
use Rattle.sc_emu.specs.Operations.{bits_of, sum}
use Rattle.sc_emu.specs.Registers.{AreRegisters, register}
use Rattle.sc_meaning.specs.Calls.{eval}
use Rattle.sc_meaning.specs.Expressions.{Answer, Nothing, Part, Place, Plain, automatic_in}
use Rattle.sc_meaning.specs.Values.{Number, Pointer, Value, is_pointer_type}
use Rattle.sc_meaning.specs.World.{Born, World, named_in, tick}
use Rattle.sc_meaning.specs.Outcomes.{Done}
use Rattle.sc_meaning.specs.Versions.{History}
use Rattle.sc_mixed.specs.Bridge.{with_registers}
use Rattle.sc_mixed.specs.declared.calls.Calls.{Calls}
use Rattle.sc_mixed_means.specs.Stages.{Stage}
use Rattle.sc_gen_code.specs.declared.symbolic.Access.{Access}
use Rattle.sc_gen_code.specs.declared.symbolic.Symbolic.TheVariants.{Upper}
use Rattle.sc_gen_code.specs.declared.symbolic.Target.TheVariants as target
use Rattle.sc_program.specs.declared.storage.StaticId.TheVariants as id
use Rattle.sc_gen_code.specs.Code.{accessed}
use Rattle.sc_gen_code.specs.Styles.{kept_at}
use Rattle.sc_gen_operand.specs.Places.{fetch, in_frame, named}
use Rattle.sc_types.specs.declared.ctype.CType.{CType}
use Rattle.sc_compiled_frames.specs.Accesses.{IsCanonical}
use Rattle.sc_compiled_frames.specs.Means.{IsWord}
use Rattle.sc_compiled_frames.specs.Words.{IsOf}
use Rattle.sc_compiled_frames.specs.Frames.{Has, foot}
use Rattle.sc_compiled_expressions.specs.Instructions.{InstrAt}
use Rattle.sc_compiled_expressions.specs.Parts.{Meets}
use Rattle.sc_compiled_expressions.specs.Standing.{HasWord, Home, MeansIn, Stands, stub, table}
use Rattle.sc_compiled_expressions.specs.Good.{IsDeeper, IsPlaced}

-- a name of a block stands for an object of that block, which is open
pub record IsOpenName (home : Home) (b i : ℕ) : Type 0 where
  pub of : Born
  pub open_there : Has of home.env.blocks
  pub block : of.block ≡ b
  pub object : ℕ
  pub numbered : slice_get of.ids i ≡ Some object
  pub meant : automatic_in home.env.blocks b i ≡ Pointer object 0

-- no register keeps a copy of what stands at the place of an expression
abbrev pub HasNoCopy : Home → CoreExpr → Type 0
HasNoCopy home e = (n : ℕ) → in_frame home.autos e ≡ Some n → kept_at home.style n ≡ None

-- an answer is a place
abbrev pub IsAtPlace : Answer → Type 0
IsAtPlace (Plain v) = ⊥
IsAtPlace (Place p) = ⊤
IsAtPlace (Part p n) = ⊤
IsAtPlace Nothing = ⊥

-- The place of an expression that has no code has been found: nothing was done. It stands so many bytes above sp, or it is the object of its name, which
-- the text reaches.
pub record PlaceFound (home : Home) (e : CoreExpr) (c : Calls) (w : World) (s : Stage) (a : Answer) (u : World) (d : Calls) (y : World) : Type 0 where
  pub calls : d ≡ c
  pub world : y ≡ w
  pub stands : Stands home s d y u
  pub place : Word
  pub word : IsWord (stub y) (table y) a place
  pub kind : IsAtPlace a
  pub in_slot : (n : ℕ) → in_frame home.autos e ≡ Some n → (n < 2 ^ 32) × (sum (foot y) n ≡ place.bits)
  pub by_name : (key : Key) → in_frame home.autos e ≡ None → named e ≡ Some key → (o : ℕ) × (a ≡ Place (Pointer o 0)) × (named_in u.names (id.Named key) ≡ Some o) × HasWord home.text (Upper (target.Named key))

abbrev pub GivesPlace : Home → ℕ → ℕ → CoreExpr → Type 0
GivesPlace home most deep e = (bound : ℕ → ℕ) → IsDeeper deep bound → (s : Stage) (c : Calls) (w v : World) → Stands home s c w v →
    Meets most s (PlaceFound home e c w) c w v (λ h m. eval (bound m) h home.env e v)

-- the next instruction does something at an address, and is the last one of the code; t0 may have been changed
pub record AtAccess (s : Stage) (what : Access) (address end : ℕ) (c q : Calls) : Type 0 where
  pub base : ℕ
  pub offset : ℤ
  pub instr : InstrAt s.image q.regs.pc (accessed what base offset)
  pub there : sum (register q.regs base).bits (bits_of offset) ≡ address
  pub last : q.regs.pc + 4 ≡ end
  pub regs : AreRegisters q.regs.words
  pub same : (j : ℕ) → j < 32 → (j == 5) ≡ false → register q.regs j ≡ register c.regs j
  pub rest : q ≡ with_registers q.regs c

-- a register gets the word of a value, and only t0 may be changed beside it
pub record Fetched (home : Home) (r end : ℕ) (c : Calls) (w : World) (s : Stage) (x : Value) (u : World) (d : Calls) (y : World) : Type 0 where
  pub there : d.regs.pc ≡ end
  pub world : y ≡ w
  pub word : MeansIn y (register d.regs r) x
  pub stands : Stands home s d y u
  pub same : (j : ℕ) → j < 32 → (j == 5) ≡ false → (j == r) ≡ false → register d.regs j ≡ register c.regs j
  pub rest : d ≡ with_registers d.regs c

pub record FetchedPlain (home : Home) (r end : ℕ) (c : Calls) (w : World) (s : Stage) (a : Answer) (u : World) (d : Calls) (y : World) : Type 0 where
  pub of : Value
  pub is : a ≡ Plain of
  pub fetched : Fetched home r end c w s of u d y

-- registers that get values: neither x0 nor sp nor t0
pub record IsFree (r : ℕ) : Type 0 where
  pub small : r < 32
  pub zero : (r == 0) ≡ false
  pub sp : (r == 2) ≡ false
  pub t0 : (r == 5) ≡ false

-- a value that is one of a scalar type
pub record IsTyped (t : CType) (v : Value) : Type 0 where
  pub canonical : IsCanonical t v
  pub of : IsOf t v

-- a value of one type may be converted to another: no pointer becomes an integer
abbrev pub Converts : CType → CType → Type 0
Converts from to = (is_pointer_type to ≡ true) ⊎ (is_pointer_type from ≡ false)

-- the code of a leaf brings its value into a register
abbrev pub GivesLeaf : Home → ℕ → ℕ → CoreExpr → ℕ → Type 0
GivesLeaf home most deep e r = (bound : ℕ → ℕ) → IsDeeper deep bound → (s : Stage) (c : Calls) (w v : World) → IsPlaced home c.regs.pc (fetch home.style home.autos r e) → Stands home s c w v →
    Meets most s (FetchedPlain home r (c.regs.pc + 4 * length (fetch home.style home.autos r e)) c w) c w v (λ h m. eval (bound m) h home.env e v)

-- an expression does nothing but two units of work, and gives a number
abbrev pub EvaluatesTo : Home → ℕ → CoreExpr → ℕ → Type 0
EvaluatesTo home deep e n = (bound : ℕ → ℕ) → IsDeeper deep bound → (v : World) (h : History) (m : ℕ) → eval (bound m) h home.env e v ≡ Done (Plain (Number n)) (tick (tick v))
