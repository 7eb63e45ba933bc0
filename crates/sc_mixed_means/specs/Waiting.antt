-- Yardstick: to be compared with what it restates (docs/TRUST.md).
-- The memory of a run, as compiled code relies on it: it has the objects of the world, those of static storage duration where the code has them, and below
-- the stack's top no object of the stack; and what compiled code that waits keeps in its frame beside all objects stays as it is.
use Rattle.std.specs.Prelude.{◌≡◌, ⊤, ℕ, ◌-◌, ◌%◌, ◌^◌, ◌+◌, ◌<◌, ◌≤◌, List, [], ◌∷◌, ◌++◌, length, slice_get, Contains, Option, Some, None}
use Rattle.sc_base.specs.declared.memory.Cell.TheVariants as stored
use Rattle.sc_isa_image.specs.Lookups.{value_of}
use Rattle.sc_isa_image.specs.Stubs.{stub_address}
use Rattle.sc_isa_image.specs.declared.image.Image.{Image}
use Rattle.sc_mem.specs.Violations.{offset_from}
use Rattle.sc_objects.specs.Blocks as blocks
use Rattle.sc_meaning.specs.World as worlds
use Rattle.sc_base.specs.declared.key.Key.{Key}
use Rattle.sc_base.specs.declared.memory.Cell.{Cell as Stored}
use Rattle.sc_emu.specs.Registers.{Registers, register}
use Rattle.sc_mem.specs.Flat.{cell_at}
use Rattle.sc_mem.specs.Safe.{IsSafe, Store}
use Rattle.sc_mem_store.specs.Apart.{AreBelow, AreOnce}
use Rattle.sc_mem_store.specs.Holding.{Holds}
use Rattle.sc_mem_store.specs.Stray.{HasNoStray}
use Rattle.sc_meaning.specs.Versions.{Text, births_of}
use Rattle.sc_meaning.specs.World.{World, named_in}
use Rattle.sc_objects.specs.Numbered.{AreApart, IsLive, object_of}
use Rattle.sc_objects.specs.declared.objects.Obj.{Obj}
use Rattle.sc_program.specs.declared.storage.StaticId.{StaticId}
use Rattle.sc_services.specs.Frames.{stack_top}
use Rattle.sc_services.specs.Memory.{IsBareAt}
use Rattle.sc_like.specs.Unseen.{TellsForms}
use Rattle.sc_mixed.specs.Machine.{depth_of}
use Rattle.sc_mixed.specs.declared.calls.Lower.{Lower}
use Rattle.sc_mixed.specs.declared.calls.Lower.TheVariants.{InBodies, InCode}

-- compiled code that waits does so at the stack's top, or above it
abbrev pub AreAbove : List Lower → World → Type 0
AreAbove [] w = ⊤
AreAbove (InBodies cs sp depth ∷ ls) w = (stack_top w ≤ sp) × AreAbove ls w
AreAbove (InCode r given ∷ ls) w = (stack_top w ≤ (register r 2).bits) × AreAbove ls w

-- a cell that a machine can have: words and bytes have their sizes, and no pointer leads behind its object's end
abbrev pub IsCell : List Obj → Stored → Type 0
IsCell table stored.Unwritten = ⊤
IsCell table (stored.Byte b) = b < 256
IsCell table (stored.Frag whole tag k) = (whole < 2 ^ 32) × ((p : Obj) → object_of table tag ≡ Some p → offset_from whole (Some p) ≤ p.size)

-- The memory is the run's: of its sizes, safe, with the heap's blocks that the world counts, and its cells are a machine's. Objects, dead ones too,
-- stand above address 0 and end below 2^32, and no byte is a piece of a pointer to what was not born.
pub record IsMemoryOf (w : World) (m : Store) : Type 0 where
  pub safe : IsSafe m
  pub stack : m.flat.stack ≡ w.stack
  pub heap : m.flat.heap ≡ w.heap
  pub made : m.blocks.used ≡ w.made
  pub free : (k : ℕ) → length (blocks.free_of m.blocks k) ≡ worlds.free_of w.free k
  pub cells : (at : ℕ) (c : Stored) → cell_at m.flat at ≡ Some c → IsCell m.flat.objects c
  pub seated : (id : ℕ) (p : Obj) → object_of m.flat.objects id ≡ Some p → (0 < p.base) × (p.base + p.size < 2 ^ 32)
  pub known : HasNoStray w.objects

-- the functions have the numbers of their stubs in the image
abbrev pub AreStubsOf : Image → List Key → Type 0
AreStubsOf i functions = (key : Key) (at : ℕ) → value_of i key ≡ Some at → (n : ℕ) × (slice_get functions n ≡ Some key) × (at ≡ stub_address n)

-- The memory of a run has the objects of its world, each at its own place; those of static storage duration are born and stand where the code of these
-- texts has them; the stack is used up to a multiple of 4, and its objects stand in the frames; what waits does so above, and inside calls that are active; and what happened tells their forms.
pub record IsFit (texts : List Text) (image : Image) (places : List (StaticId × ℕ)) (lower : List Lower) (w : World) : Type 0 where
  pub memory : Store
  pub is : w.beside.memory ≡ Some memory
  pub of : IsMemoryOf w memory
  pub stubs : AreStubsOf image w.beside.functions
  pub few : stub_address (length w.beside.functions) ≤ 2 ^ 32
  pub holds : Holds w.objects memory.flat w.beside.functions
  pub apart : AreApart memory.flat.objects
  pub below : AreBelow memory.flat.objects
  pub once : AreOnce w.beside.functions
  pub born : (id : StaticId) → Contains (births_of texts) id → (o : ℕ) × (named_in w.names id ≡ Some o)
  pub stand : (id : StaticId) (o at : ℕ) → named_in w.names id ≡ Some o → named_in places id ≡ Some at → (p : Obj) × IsLive memory.flat.objects o p × (p.base ≡ at)
  pub above : AreAbove lower w
  pub inner : depth_of lower ≤ length w.frames
  pub forms : TellsForms w
  pub aligned : w.used % 4 ≡ 0
  pub framed : (id : ℕ) (p : Obj) → IsLive memory.flat.objects id p → 0x20000000 - w.stack ≤ p.base → stack_top w ≤ p.base

-- what is stored at an address
abbrev pub stored_in : Option Store → ℕ → Option Stored
stored_in None at = None
stored_in (Some m) at = cell_at m.flat at

-- the object with a number, as memory has it
abbrev pub object_in : Option Store → ℕ → Option Obj
object_in None id = None
object_in (Some m) id = object_of m.flat.objects id

-- From its stack pointer on, what stands beside all objects is as it was; objects stay where they are, and functions keep their numbers.
pub record Keeps (r : Registers) (old new : World) : Type 0 where
  pub bytes : (at : ℕ) → (register r 2).bits ≤ at → IsBareAt old at → IsBareAt new at × (stored_in new.beside.memory at ≡ stored_in old.beside.memory at)
  pub bases : (id : ℕ) (o : Obj) → object_in old.beside.memory id ≡ Some o → (p : Obj) × (object_in new.beside.memory id ≡ Some p) × (p.base ≡ o.base)
  pub more : List Key
  pub functions : new.beside.functions ≡ old.beside.functions ++ more

-- so it is for all compiled code that waits
abbrev pub KeepsWaiting : List Lower → World → World → Type 0
KeepsWaiting [] old new = ⊤
KeepsWaiting (InBodies cs sp depth ∷ ls) old new = KeepsWaiting ls old new
KeepsWaiting (InCode r given ∷ ls) old new = Keeps r old new × KeepsWaiting ls old new
