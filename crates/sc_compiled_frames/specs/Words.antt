-- Inside: plumbing, a representation, an invariant or a promise beside the claim (docs/TRUST.md).
-- When memory holds the objects of a world at their addresses, and its words are values of the meaning.
use Rattle.std.specs.Prelude.{◌≡◌, ◌⊎◌, ⊤, ℕ, ◌+◌, ◌^◌, ◌<◌, ◌≤◌, true, List, length, slice_get, Some}
use Rattle.sc_base.specs.declared.key.Key.{Key}
use Rattle.sc_base.specs.declared.memory.Cell.{Cell as Stored}
use Rattle.sc_base.specs.declared.memory.Cell.TheVariants.{Unwritten, Byte, Frag}
use Rattle.sc_objects.specs.Blocks.{Blocks}
use Rattle.sc_objects.specs.declared.objects.Obj.{Obj}
use Rattle.sc_objects.specs.Numbered.{object_of}
use Rattle.sc_isa_image.specs.Stubs.{stub_address}
use Rattle.sc_types.specs.declared.ctype.CType.{CType}
use Rattle.sc_mem.specs.Flat.{Flat, cell_at}
use Rattle.sc_mem.specs.Safe.{IsSafe}
use Rattle.sc_mem.specs.Violations.{offset_from}
use Rattle.sc_meaning.specs.Values.{Value, is_pointer_type}
use Rattle.sc_meaning.specs.Violations.{is_plain}
use Rattle.sc_meaning.specs.World.{Object}
use Rattle.sc_mem_store.specs.Apart.{AreOnce}
use Rattle.sc_mem_store.specs.Holding.{Holds}
use Rattle.sc_mem_store.specs.Stray.{HasNoStray}

-- Each function has the address of its stub, and no function has two numbers; any other key has none of a word.
pub record AreStubs (functions : List Key) (stub : Key → ℕ) : Type 0 where
  pub once : AreOnce functions
  pub few : stub_address (length functions) ≤ 2 ^ 32
  pub there : (n : ℕ) (key : Key) → slice_get functions n ≡ Some key → stub key ≡ stub_address n
  pub only : (key : Key) → stub key < 2 ^ 32 → (n : ℕ) × (slice_get functions n ≡ Some key)

-- Objects, dead ones too, stand above address 0 and end below 2^32, and their numbers are below the functions' tag.
abbrev pub AreSeated : List Obj → Type 0
AreSeated table = (id : ℕ) (p : Obj) → object_of table id ≡ Some p → (0 < p.base) × (p.base + p.size < 2 ^ 32) × (id < 4294967295)

-- an address leads into the object of its tag, or to its end
abbrev pub IsInside : List Obj → ℕ → ℕ → Type 0
IsInside table bits tag = (p : Obj) → object_of table tag ≡ Some p → offset_from bits (Some p) ≤ p.size

-- a cell that a machine can have
abbrev pub IsCell : List Obj → Stored → Type 0
IsCell table Unwritten = ⊤
IsCell table (Byte b) = b < 256
IsCell table (Frag whole tag k) = (whole < 2 ^ 32) × IsInside table whole tag

-- A memory has the objects of the meaning at addresses, and is safe.
pub record Held (functions : List Key) (m : Flat) (objects : List Object) : Type 0 where
  pub holds : Holds objects m functions
  pub blocks : Blocks
  pub safe : IsSafe (record { flat = m; blocks = blocks })

-- It holds the objects, and its words are values: cells are a machine's, objects stand where words reach, and no pointer leads nowhere.
pub record HeldWords (functions : List Key) (m : Flat) (objects : List Object) : Type 0 where
  pub held : Held functions m objects
  pub cells : (at : ℕ) (c : Stored) → cell_at m at ≡ Some c → IsCell m.objects c
  pub seated : AreSeated m.objects
  pub known : HasNoStray objects

-- a value of a scalar type: of an integer type it is a number
abbrev pub IsOf : CType → Value → Type 0
IsOf t v = (is_pointer_type t ≡ true) ⊎ (is_plain v ≡ true)
