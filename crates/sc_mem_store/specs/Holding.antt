-- Inside: plumbing, a representation, an invariant or a promise beside the claim (docs/TRUST.md).
-- What it is that a memory holds the objects of a run: the same objects number by number, and for each one that lives the
-- bytes at its addresses. Every cell that a machine can store stands for a byte.
use Rattle.std.specs.Prelude.{◌≡◌, ◌⊎◌, ⊤, ℕ, ◌+◌, ◌-◌, ◌/◌, ◌%◌, ◌<◌, min, ◌==◌, ◌&&◌, nat_le, true, if◌then◌else◌, List, length, slice_get, Option, Some, None, option_map}
use Rattle.sc_base.specs.declared.key.Key.{Key}
use Rattle.sc_base.specs.declared.memory.Cell.{Cell as Stored}
use Rattle.sc_base.specs.declared.memory.Cell.TheVariants as stored
use Rattle.sc_objects.specs.declared.objects.Obj.{Obj}
use Rattle.sc_objects.specs.Numbered.{object_of}
use Rattle.sc_mem.specs.Flat.{Flat, cell_at}
use Rattle.sc_mem.specs.Safe.{Store}
use Rattle.sc_mem.specs.Violations.{offset_from}
use Rattle.sc_meaning.specs.Values.{Value, Number, FunctionAt, Pointer, Cell, Unwritten, Byte, Piece}
use Rattle.sc_meaning.specs.World.{Object, object_at}

-- the function whose stub begins at an address: stub F has eight bytes, and function F is the one with this place in the list
abbrev pub function_of : List Key → ℕ → Option Key
function_of functions address = if nat_le 0x00010000 address && (address % 8 == 0) then slice_get functions ((address - 0x00010000) / 8) else None

-- Every word is a value. The number 0 is no object's: it has the words with the functions' tag whose address is no stub of a function.
abbrev pub function_or : Option Key → ℕ → Value
function_or (Some key) address = FunctionAt key
function_or None address = Pointer 0 address

-- as far behind an object's base as an address lies, modulo 2^32
abbrev pub place_or : ℕ → Option Obj → ℕ → Value
place_or tag (Some o) address = Pointer tag (offset_from address (Some o))
place_or tag None address = Pointer 0 address

-- the value of a word by its tag and address
abbrev pub value_at : List Key → List Obj → ℕ → ℕ → Value
value_at functions table tag address =
    if tag == 0 then Number address
    else if tag == 4294967295 then function_or (function_of functions address) address
    else place_or tag (object_of table tag) address

-- the byte that a cell of memory stands for
abbrev pub meant : List Key → List Obj → Stored → Cell
meant functions table stored.Unwritten = Unwritten
meant functions table (stored.Byte b) = Byte b
meant functions table (stored.Frag whole tag k) = Piece (value_at functions table tag whole) k

-- the byte at an address
abbrev pub byte_at : Flat → List Key → ℕ → Option Cell
byte_at m functions at = option_map (meant functions m.objects) (cell_at m at)

-- the tags that there are: of numbers, of functions, and of the objects that were born
abbrev pub IsTag : List Obj → ℕ → Type 0
IsTag table tag = (tag ≡ 0) ⊎ ((tag ≡ 4294967295) ⊎ ((p : Obj) × (object_of table tag ≡ Some p)))

-- a piece has one of them
abbrev pub IsTagged : List Obj → Stored → Type 0
IsTagged table stored.Unwritten = ⊤
IsTagged table (stored.Byte b) = ⊤
IsTagged table (stored.Frag whole tag k) = IsTag table tag

-- these bytes stand from an address on
abbrev pub HasBytes : Flat → List Key → ℕ → List Cell → Type 0
HasBytes m functions base cells = (i : ℕ) (c : Cell) → slice_get cells i ≡ Some c → byte_at m functions (base + i) ≡ Some c

-- memory's object is the meaning's: of its size and kind, at a multiple of 4, live where it is, and then with its bytes
pub record IsHeld (m : Flat) (functions : List Key) (o : Object) (p : Obj) : Type 0 where
  pub size : p.size ≡ o.size
  pub kind : p.kind ≡ o.kind
  pub live : p.live ≡ o.live
  pub base : p.base % 4 ≡ 0
  pub full : o.live ≡ true → length o.cells ≡ o.size
  pub bytes : o.live ≡ true → HasBytes m functions p.base o.cells

abbrev pub AreHeld : Flat → List Key → Option Object → Option Obj → Type 0
AreHeld m functions None None = ⊤
AreHeld m functions (Some o) (Some p) = IsHeld m functions o p
AreHeld m functions _ _ = ⊥

-- number by number; and every cell, also one that stands in no object, has a tag that there is
pub record Holds (objects : List Object) (m : Flat) (functions : List Key) : Type 0 where
  pub count : length m.objects ≡ length objects
  pub each : (id : ℕ) → AreHeld m functions (object_at objects id) (object_of m.objects id)
  pub tagged : (at : ℕ) (c : Stored) → cell_at m at ≡ Some c → IsTagged m.objects c

-- an offset is inside of a live object
abbrev pub IsInside : List Object → ℕ → ℕ → Type 0
IsInside objects id at = (o : Object) × (object_at objects id ≡ Some o) × (at < length o.cells)

-- an offset is inside of a live object of the table
abbrev pub IsReached : Store → ℕ → ℕ → Type 0
IsReached s id at = (p : Obj) × (object_of s.flat.objects id ≡ Some p) × (p.live ≡ true) × (at < p.size)

-- so many bytes from an address on are the n bytes of a live object from an offset on, as far as the object has them; those of
-- an object that is not born are none
abbrev pub Spans : Option Obj → ℕ → ℕ → ℕ → ℕ → Type 0
Spans None at n base count = count ≡ 0
Spans (Some p) at n base count = (p.live ≡ true) × (count ≡ min n (p.size - at)) × (0 < count → base ≡ p.base + at)
