-- Inside: plumbing, a representation, an invariant or a promise beside the claim (docs/TRUST.md).
-- How a call of compiled code stands between the parts of its text, and what a part leaves as it was.
use Rattle.std.specs.Prelude.{◌≡◌, ◌⊎◌, ⊤, ℕ, ◌+◌, ◌<◌, ◌≤◌, ◌==◌, ◌&&◌, ◌||◌, Bool, true, not, if◌then◌else◌, List, [], ◌∷◌, length, map, slice_get, slice_index_or, Option, Some, None}
use Rattle.sc_base.specs.declared.key.Key.{Key}
use Rattle.sc_base.specs.declared.memory.Word.{Word}
use Rattle.sc_program.specs.declared.frame.Slot.{Slot}
use Rattle.sc_program.specs.declared.storage.StaticId.TheVariants as id
use Rattle.sc_objects.specs.declared.objects.Obj.{Obj}
use Rattle.sc_objects.specs.Numbered.{IsLive}
use Rattle.sc_mem.specs.Safe.{Store}
use Rattle.sc_isa_image.specs.Stubs.{stub_address}
use Rattle.sc_emu.specs.Operations.{plain}
use Rattle.sc_emu.specs.Registers.{AreRegisters, register}
use Rattle.sc_core.specs.declared.module.Auto.{Auto}
use Rattle.sc_meaning.specs.Expressions.{Env}
use Rattle.sc_meaning.specs.Values.{Value}
use Rattle.sc_meaning.specs.World.{Born, Frame, World, named_in, outer}
use Rattle.sc_services.specs.Blocks.{top_blocks, top_cost}
use Rattle.sc_services.specs.Frames.{is_in_code}
use Rattle.sc_services.specs.Memory.{IsBareAt}
use Rattle.sc_like.specs.Alike.{Like}
use Rattle.sc_like.specs.Unseen.{TellsForms}
use Rattle.sc_mixed.specs.declared.calls.Calls.{Calls}
use Rattle.sc_mixed.specs.declared.calls.Lower.{Lower}
use Rattle.sc_mixed.specs.declared.calls.Lower.TheVariants.{InBodies, InCode}
use Rattle.sc_mixed.specs.Machine.{depth_of}
use Rattle.sc_mixed_means.specs.Owed.{is_calling_out}
use Rattle.sc_mixed_means.specs.Stages.{Stage, since, texts_of}
use Rattle.sc_mixed_means.specs.Waiting.{IsFit, stored_in}
use Rattle.sc_gen_code.specs.declared.style.Style.{Style}
use Rattle.sc_gen_code.specs.declared.style.Spot.{Spot}
use Rattle.sc_gen_code.specs.declared.symbolic.Symbolic.{Symbolic}
use Rattle.sc_gen_code.specs.declared.symbolic.Symbolic.TheVariants.{Call, Upper}
use Rattle.sc_gen_code.specs.declared.symbolic.Target.{Target}
use Rattle.sc_gen_code.specs.declared.symbolic.Target.TheVariants as target
use Rattle.sc_gen_code.specs.Code.{Code}
use Rattle.sc_gen_code.specs.Styles.{enters}
use Rattle.sc_compiled_frames.specs.Means.{Means}
use Rattle.sc_compiled_frames.specs.Stubs.{stub_of}
use Rattle.sc_compiled_frames.specs.Words.{AreStubs}
use Rattle.sc_compiled_frames.specs.Frames.{HasFrame, foot}
use Rattle.sc_compiled_expressions.specs.Coming.{Comes}
use Rattle.sc_compiled_expressions.specs.Placing.{CodeAt}

-- What a text is translated by, and where it stands: the style, the function's slots and the cost of its frame, the address of its first word and its
-- words, what its names stand for; where temporaries begin and end above sp; and the stage from which on a run is spoken of.
pub record Home : Type 0 where
  pub style : Style
  pub autos : List (List Auto)
  pub cost : ℕ
  pub base : ℕ
  pub text : Code
  pub env : Env
  pub outgoing : ℕ
  pub room : ℕ
  pub from : Stage

abbrev pub slots : Home → ℕ → List Slot
slots home b = map (λ (x : Auto). x.slot) (slice_index_or home.autos b [])

-- the objects of a world as its memory has them
abbrev pub table_in : Option Store → List Obj
table_in None = []
table_in (Some m) = m.flat.objects

abbrev pub table : World → List Obj
table w = table_in w.beside.memory

-- the addresses of functions in a world
abbrev pub stub : World → Key → ℕ
stub w key = stub_of w.beside.functions key

-- a word means a value in the memory of a world
abbrev pub MeansIn : World → Word → Value → Type 0
MeansIn w x v = Means (stub w) (table w) x v

-- an object lives at an address
abbrev pub LivesAt : World → ℕ → ℕ → Type 0
LivesAt w o at = (p : Obj) × IsLive (table w) o p × (p.base ≡ at)

-- a text has a word
abbrev pub HasWord : Code → Symbolic → Type 0
HasWord [] x = ⊥
HasWord (y ∷ ys) x = (y ≡ x) ⊎ HasWord ys x

-- The targets of a text have the addresses of what they name: of the objects with names and the literals that it reaches, and of the stubs of the
-- functions that it calls, which have numbers.
pub record AreTargets (value : Target → ℕ) (home : Home) (w : World) : Type 0 where
  pub static : (key : Key) (o : ℕ) → HasWord home.text (Upper (target.Named key)) → named_in w.names (id.Named key) ≡ Some o → LivesAt w o (value (target.Named key))
  pub literal : (i : ℕ) (bytes : List ℕ) (o : ℕ) → HasWord home.text (Upper (target.Literal i)) → slice_get home.env.text.core.literals i ≡ Some bytes → named_in w.names (id.Literal home.env.text.core.name bytes) ≡ Some o → LivesAt w o (value (target.Literal i))
  pub function : (n : ℕ) (key : Key) → HasWord home.text (Call (target.Named key)) → slice_get w.beside.functions n ≡ Some key → value (target.Named key) ≡ stub_address n
  pub numbered : (key : Key) → HasWord home.text (Call (target.Named key)) → (n : ℕ) × (slice_get w.beside.functions n ≡ Some key)

-- so it is in each fit memory of a stage
abbrev pub AreFixed : (Target → ℕ) → Home → Stage → Type 0
AreFixed value home s = (lower : List Lower) (w : World) → IsFit (texts_of s.past) s.image s.places lower w → AreTargets value home w

-- compiled code that waits does so at an address, or above it
abbrev pub AreOver : List Lower → ℕ → Type 0
AreOver [] at = ⊤
AreOver (InBodies cs sp depth ∷ ls) at = AreOver ls at
AreOver (InCode r given ∷ ls) at = (at ≤ (register r 2).bits) × AreOver ls at

-- code enters a block: that of the parameters always, with the call
abbrev pub is_entered : Style → List (List Auto) → ℕ → Bool
is_entered st autos b = (b == 0) || enters st autos b

-- the blocks that code enters, of those that the meaning has open
abbrev pub entered_blocks : Style → List (List Auto) → List Born → List Born
entered_blocks st autos [] = []
entered_blocks st autos (b ∷ bs) = if is_entered st autos b.block then b ∷ entered_blocks st autos bs else entered_blocks st autos bs

-- where the text of the innermost call begins
abbrev pub top_start : List Frame → ℕ
top_start [] = 0
top_start (f ∷ fs) = f.start

-- The stage is one that the text's own has come to; the text is there, its frame holds the objects of its open blocks, sp is at the frame's foot, what waits does so above the frame, the run's
-- world is alike the meaning's, and the innermost call is its own, which was not yet active as the innermost compiled code was called; it has taken the frame of the text, and begins with it.
pub record Stands (home : Home) (s : Stage) (c : Calls) (w v : World) : Type 0 where
  pub comes : Comes home.from s
  pub regs : AreRegisters c.regs.words
  pub frame : HasFrame (slots home) home.cost home.env.blocks w
  pub sp : register c.regs 2 ≡ plain (foot w)
  pub above : AreOver c.lower (foot w + home.cost)
  pub stubs : AreStubs w.beside.functions (stub w)
  pub took : top_cost w.frames ≡ home.cost
  pub starts : top_start w.frames ≡ home.base
  pub opened : top_blocks w.frames ≡ entered_blocks home.style home.autos home.env.blocks
  pub alike : Like w v
  pub late : since s.past ≤ v.count
  pub forms : TellsForms v
  pub inner : depth_of c.lower < length w.frames
  pub own : (is_in_code v.frames && not (is_calling_out v)) ≡ true
  pub value : Target → ℕ
  pub text : CodeAt s.image value home.base home.text
  pub targets : AreTargets value home w
  pub fixed : AreFixed value home s

-- words at these addresses wait: temporaries of operands, what stands above all slots, and the frames above
abbrev pub IsWaiting : Home → Spot → ℕ → ℕ → Type 0
IsWaiting home at sp a = (sp + home.outgoing ≤ a) × ((a < sp + at.low) ⊎ (sp + home.room ≤ a))

-- how much of the stack a memory has
abbrev pub area_in : Option Store → ℕ
area_in None = 0
area_in (Some m) = m.flat.stack

-- Objects on the stack from an address on are there still, and none has come; the stack has as much memory, or more.
pub record StaysAbove (at : ℕ) (w y : World) : Type 0 where
  pub lives : (id : ℕ) (p : Obj) → IsLive (table w) id p → at ≤ p.base → p.base < 0x20000000 → IsLive (table y) id p
  pub only : (id : ℕ) (p : Obj) → IsLive (table y) id p → at ≤ p.base + p.size → p.base < 0x20000000 → IsLive (table w) id p
  pub area : area_in w.beside.memory ≤ area_in y.beside.memory

-- What a part leaves: the operands that wait in registers and in the frame, the calls that wait below, where the frame is, what words mean, the
-- objects of the frames above, and the run's own active calls but the innermost.
pub record Keeps (home : Home) (at : Spot) (c : Calls) (w : World) (d : Calls) (y : World) : Type 0 where
  pub waits : (j : ℕ) → j < at.depth → register d.regs (13 + j) ≡ register c.regs (13 + j)
  pub lower : d.lower ≡ c.lower
  pub given : d.given ≡ c.given
  pub words : (x : Word) (v : Value) → MeansIn w x v → MeansIn y x v
  pub bytes : (a : ℕ) → IsWaiting home at (foot w) a → IsBareAt w a → IsBareAt y a × (stored_in y.beside.memory a ≡ stored_in w.beside.memory a)
  pub objects : StaysAbove (foot w + home.cost) w y
  pub callers : outer y.frames ≡ outer w.frames
  pub foot : foot y ≡ foot w
