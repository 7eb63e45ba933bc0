-- Inside: plumbing, a representation, an invariant or a promise beside the claim (docs/TRUST.md).
-- Which bytes of memory belong to live objects.
use Rattle.std.specs.Prelude.{◌≡◌, ◌⊎◌, ℕ, ◌+◌, ◌<◌, ◌≤◌, true, List, length, slice_get, Option, Some, None}
use Rattle.sc_base.specs.declared.key.Key.{Key}
use Rattle.sc_base.specs.declared.memory.Cell.{Cell as Stored}
use Rattle.sc_objects.specs.declared.objects.Obj.{Obj}
use Rattle.sc_objects.specs.Numbered.{IsLive, IsObjectAt}
use Rattle.sc_meaning.specs.World.{Object, object_at}
use Rattle.sc_mem.specs.Flat.{Flat, cell_at}
use Rattle.sc_mem_store.specs.Holding.{function_of}

-- an object lives, and all its bytes are there
abbrev pub IsLiving : List Object → ℕ → Type 0
IsLiving objects id = (o : Object) × (object_at objects id ≡ Some o) × (o.live ≡ true) × (length o.cells ≡ o.size)

-- an offset is that of a byte of a live object
abbrev pub IsLiveAt : List Object → ℕ → ℕ → Type 0
IsLiveAt objects id offset = (o : Object) × (object_at objects id ≡ Some o) × (o.live ≡ true) × (length o.cells ≡ o.size) × (offset < o.size)

-- the byte at an address belongs to no live object
abbrev pub IsBare : List Obj → ℕ → Type 0
IsBare table address = (id : ℕ) (p : Obj) → IsLive table id p → (address < p.base) ⊎ (p.base + p.size ≤ address)

-- the byte at an address is this one of a live object
abbrev pub IsByteOf : List Obj → ℕ → ℕ → ℕ → Type 0
IsByteOf table id offset address = (p : Obj) × IsLive table id p × (offset < p.size) × (p.base + offset ≡ address)

-- The tag of what stands at an address: that of functions at the stub of one; else the number of the live object that has the byte there, or that
-- ends just in front of it. None where there is neither.
abbrev pub IsTagBy : Option Key → List Obj → ℕ → Option ℕ → Type 0
IsTagBy (Some key) table address tag = tag ≡ Some 4294967295
IsTagBy None table address tag = IsObjectAt table address tag

abbrev pub IsTagAt : List Key → List Obj → ℕ → Option ℕ → Type 0
IsTagAt functions table address tag = IsTagBy (function_of functions address) table address tag

-- these cells stand from an address on
abbrev pub HasCells : Flat → ℕ → List Stored → Type 0
HasCells m at cells = (i : ℕ) (x : Stored) → slice_get cells i ≡ Some x → cell_at m (at + i) ≡ Some x
