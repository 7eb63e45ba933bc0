-- Inside: plumbing, a representation, an invariant or a promise beside the claim (docs/TRUST.md).
-- A call at the stub of its function, of whatever form this is, and what has become of it behind its return: the one form for callers and callees.
use Rattle.std.specs.Prelude.{◌≡◌, ℕ, ◌*◌, ◌/◌, ◌%◌, ◌^◌, ◌<◌, ◌≤◌, true, List, length, slice_get, None, Some, ◌⊎◌}
use Rattle.sc_base.specs.declared.key.Key.{Key}
use Rattle.sc_base.specs.declared.memory.Word.{Word}
use Rattle.sc_base.specs.declared.report.Rule.TheVariants.{U12}
use Rattle.sc_types.specs.declared.ctype.CType.{CType}
use Rattle.sc_isa_image.specs.Stubs.{stub_address}
use Rattle.sc_emu.specs.Operations.{plain}
use Rattle.sc_emu.specs.Registers.{AreRegisters, register}
use Rattle.sc_meaning.specs.Calls.{call}
use Rattle.sc_meaning.specs.Expressions.{Answer, value_rule}
use Rattle.sc_meaning.specs.Values.{FunctionAt, Value}
use Rattle.sc_meaning.specs.World.{World}
use Rattle.sc_services.specs.Arguments.{are_inside, argument_word}
use Rattle.sc_services.specs.Frames.{stack_top}
use Rattle.sc_services.specs.Memory.{IsBareAt}
use Rattle.sc_like.specs.Alike.{Like}
use Rattle.sc_like.specs.Unseen.{TellsForms}
use Rattle.sc_mixed.specs.declared.calls.Calls.{Calls}
use Rattle.sc_mixed.specs.Machine.{depth_of}
use Rattle.sc_mixed_means.specs.Stages.{Stage, since, texts_of}
use Rattle.sc_mixed_means.specs.Waiting.{stored_in}
use Rattle.sc_gen_code.specs.declared.style.Spot.{Spot}
use Rattle.sc_gen_code.specs.declared.symbolic.Target.{Target}
use Rattle.sc_compiled_frames.specs.Means.{IsWord}
use Rattle.sc_compiled_frames.specs.Words.{AreStubs}
use Rattle.sc_compiled_frames.specs.Worlds.{HoldsWords}
use Rattle.sc_compiled_expressions.specs.Coming.{Comes}
use Rattle.sc_compiled_expressions.specs.Placing.{CodeAt}
use Rattle.sc_compiled_expressions.specs.Parts.{Meets}
use Rattle.sc_compiled_expressions.specs.Standing.{AreFixed, AreOver, AreTargets, Home, MeansIn, Stands, StaysAbove, Keeps, stub, table}

-- The next instruction is the stub of a function that has a number; its arguments are in their places; ra leads back into a text.
pub record Called (s : Stage) (key : Key) (xs : List Value) (c : Calls) (w v : World) : Type 0 where
  pub number : ℕ
  pub numbered : slice_get w.beside.functions number ≡ Some key
  pub there : c.regs.pc ≡ stub_address number
  pub regs : AreRegisters c.regs.words
  pub sp : register c.regs 2 ≡ plain (stack_top w)
  pub aligned : stack_top w % 4 ≡ 0
  pub back : register c.regs 1 ≡ plain (register c.regs 1).bits
  pub near : (register c.regs 1).bits < 2 ^ 32
  pub even : (register c.regs 1).bits / 2 * 2 ≡ (register c.regs 1).bits
  pub inside : are_inside (length xs) w ≡ true
  pub arguments : (k : ℕ) (x : Value) → slice_get xs k ≡ Some x → (z : Word) × (argument_word k c.regs w ≡ Some z) × MeansIn w z x
  pub above : AreOver c.lower (stack_top w)
  pub deep : depth_of c.lower ≤ length w.frames
  pub holds : HoldsWords w
  pub stubs : AreStubs w.beside.functions (stub w)
  pub alike : Like w v
  pub late : since s.past ≤ v.count
  pub forms : TellsForms v

-- texts that stood in the image stand there still, and their targets have the addresses of what they name
abbrev pub TextsStay : Stage → Stage → World → Type 0
TextsStay s t y = (home : Home) (value : Target → ℕ) → CodeAt s.image value home.base home.text → AreFixed value home s → (now : Target → ℕ) × CodeAt t.image now home.base home.text × AreFixed now home t × AreTargets now home y

-- the word of what a call gave
abbrev pub IsResultIn : World → Answer → Word → Type 0
IsResultIn y a z = IsWord (stub y) (table y) a z

pub record Returned (c : Calls) (w v : World) (s t : Stage) (a : Answer) (u : World) (d : Calls) (y : World) : Type 0 where
  pub comes : Comes s t
  pub there : d.regs.pc ≡ (register c.regs 1).bits
  pub regs : AreRegisters d.regs.words
  pub sp : register d.regs 2 ≡ register c.regs 2
  pub word : IsResultIn y a (register d.regs 10)
  pub lower : d.lower ≡ c.lower
  pub inner : depth_of c.lower < length w.frames → d.given ≡ c.given
  pub outermost : length w.frames ≡ depth_of c.lower → d.given ≡ Some a
  pub words : (x : Word) (z : Value) → MeansIn w x z → MeansIn y x z
  pub bytes : (b : ℕ) → stack_top w ≤ b → IsBareAt w b → IsBareAt y b × (stored_in y.beside.memory b ≡ stored_in w.beside.memory b)
  pub objects : StaysAbove (stack_top w) w y
  pub top : stack_top y ≡ stack_top w
  pub calls : y.frames ≡ w.frames
  pub holds : HoldsWords y
  pub stubs : AreStubs y.beside.functions (stub y)
  pub alike : Like y u
  pub late : since t.past ≤ u.count
  pub forms : TellsForms u
  pub texts : TextsStay s t y

-- the meaning looks as deep as it is asked, or deeper
abbrev pub LooksOn : (ℕ → ℕ) → Type 0
LooksOn bound = (m : ℕ) → m ≤ bound m

-- the call of a function from its stub returns, where a run moves at most so often, at each stage that one has come to
abbrev pub ReturnsFrom : Stage → ℕ → Key → Type 0
ReturnsFrom from most key =
    (s : Stage) (xs : List Value) (c : Calls) (w v : World) → Comes from s → Called s key xs c w v → (bound : ℕ → ℕ) → LooksOn bound →
    Meets most s (λ t a u d y. Returned c w v s t a u d y) c w v (λ h m. call (bound m) h key xs v)

-- so it is of each function
abbrev pub CallsReturn : Stage → ℕ → Type 0
CallsReturn from most = (key : Key) → ReturnsFrom from most key

-- the arguments of a call are in their places
pub record HasArguments (xs : List Value) (c : Calls) (w : World) : Type 0 where
  pub inside : are_inside (length xs) w ≡ true
  pub arguments : (k : ℕ) (x : Value) → slice_get xs k ≡ Some x → (z : Word) × (argument_word k c.regs w ≡ Some z) × MeansIn w z x

-- compiled code is at the stub of a function that it calls: the arguments are in their places, and ra leads behind the call
pub record IsAtCall (key : Key) (xs : List Value) (end : ℕ) (c : Calls) (w : World) : Type 0 where
  pub number : ℕ
  pub numbered : slice_get w.beside.functions number ≡ Some key
  pub there : c.regs.pc ≡ stub_address number
  pub back : register c.regs 1 ≡ plain end
  pub near : end < 2 ^ 32
  pub even : end / 2 * 2 ≡ end
  pub inside : are_inside (length xs) w ≡ true
  pub arguments : (k : ℕ) (x : Value) → slice_get xs k ≡ Some x → (z : Word) × (argument_word k c.regs w ≡ Some z) × MeansIn w z x

-- and behind the call, with what it gave
pub record CameBack (home : Home) (at : Spot) (end : ℕ) (c : Calls) (w : World) (s : Stage) (a : Answer) (u : World) (d : Calls) (y : World) : Type 0 where
  pub there : d.regs.pc ≡ end
  pub word : IsResultIn y a (register d.regs 10)
  pub stands : Stands home s d y u
  pub keeps : Keeps home at c w d y

-- a function that the text calls is called by its type, or by another one, but is not missing
abbrev pub FitsType : Home → CType → Key → Type 0
FitsType home t key = (s : Stage) (c : Calls) (w v : World) → Stands home s c w v → (value_rule (texts_of s.past) home.env.text t (FunctionAt key) ≡ None) ⊎ (value_rule (texts_of s.past) home.env.text t (FunctionAt key) ≡ Some U12)
