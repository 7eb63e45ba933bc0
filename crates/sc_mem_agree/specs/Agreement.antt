-- Inside: plumbing, a representation, an invariant or a promise beside the claim (docs/TRUST.md).
-- What it is that a memory has the objects of a world of the meaning, and that a word stands for a value.
use Rattle.std.specs.Prelude.{◌≡◌, ◌≢◌, ⊤, ℕ, ◌%◌, ◌^◌, ◌<◌, ◌==◌, List, [], ◌∷◌, Option, Some, None}
use Rattle.sc_base.specs.declared.key.Key.{Key}
use Rattle.sc_base.specs.declared.memory.Cell.{Cell as Stored}
use Rattle.sc_base.specs.declared.memory.Cell.TheVariants.{Unwritten as Empty, Byte as Octet, Frag}
use Rattle.sc_base.specs.declared.memory.Word.{Word}
use Rattle.sc_objects.specs.declared.objects.Obj.{Obj}
use Rattle.sc_objects.specs.Numbered.{object_of}
use Rattle.sc_mem.specs.Violations.{offset_from}
use Rattle.sc_meaning.specs.Values.{Value, Number, FunctionAt, Pointer, Cell, Unwritten, Byte, Piece, same_key}
use Rattle.sc_meaning.specs.World.{Object, object_at}

-- an object of memory is one of the meaning: of its size and kind, live where it is, and at a multiple of 4
pub record IsSame (o : Object) (p : Obj) : Type 0 where
  pub size : p.size ≡ o.size
  pub kind : p.kind ≡ o.kind
  pub live : p.live ≡ o.live
  pub base : p.base % 4 ≡ 0

abbrev pub AreSame : Option Object → Option Obj → Type 0
AreSame None None = ⊤
AreSame (Some o) (Some p) = IsSame o p
AreSame _ _ = ⊥

-- number by number
abbrev pub Agree : List Object → List Obj → Type 0
Agree objects table = (id : ℕ) → AreSame (object_at objects id) (object_of table id)

-- the addresses of functions tell them apart
abbrev pub AreDistinct : (Key → ℕ) → Type 0
AreDistinct f = (k l : Key) → (f k == f l) ≡ same_key k l

-- A word stands for a value, where functions have these addresses. A number has no tag; a function's pointer has the tag of
-- functions, which is no object's number; an object's pointer has the object's number, and lies as far behind the object's
-- base as the value says, modulo 2^32.
abbrev pub StandsFor : (Key → ℕ) → List Obj → Word → Value → Type 0
StandsFor f table w (Number n) = (w.bits ≡ n) × (w.tag ≡ 0)
StandsFor f table w (FunctionAt k) = (w.bits ≡ f k) × (w.tag ≡ 4294967295) × (object_of table w.tag ≡ None)
StandsFor f table w (Pointer o i) = (p : Obj) × (w.tag ≡ o) × (object_of table o ≡ Some p) × (w.bits < 2 ^ 32) × (offset_from w.bits (Some p) ≡ i)

-- a cell of memory stands for a byte of the meaning
abbrev pub CellFor : (Key → ℕ) → List Obj → Stored → Cell → Type 0
CellFor f table Empty Unwritten = ⊤
CellFor f table (Octet a) (Byte b) = a ≡ b
CellFor f table (Frag whole tag k) (Piece p j) = StandsFor f table (record { bits = whole; tag = tag }) p × (tag ≢ 0) × (k ≡ j)
CellFor f table _ _ = ⊥

-- one by one
abbrev pub AreCells : (Key → ℕ) → List Obj → List Stored → List Cell → Type 0
AreCells f table [] [] = ⊤
AreCells f table (c ∷ cs) (d ∷ ds) = CellFor f table c d × AreCells f table cs ds
AreCells f table _ _ = ⊥
