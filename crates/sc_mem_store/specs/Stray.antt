-- Inside: plumbing, a representation, an invariant or a promise beside the claim (docs/TRUST.md).
-- Pointers with the functions' tag that lead to no function. No program whose steps are all defined has one.
use Rattle.std.specs.Prelude.{◌≡◌, ℕ, zero, suc, ◌+◌, ◌<◌, Bool, true, false, List, slice_get, Some}
use Rattle.sc_base.specs.declared.key.Key.{Key}
use Rattle.sc_objects.specs.declared.objects.Obj.{Obj}
use Rattle.sc_objects.specs.Numbered.{IsLive}
use Rattle.sc_mem.specs.Flat.{Flat}
use Rattle.sc_meaning.specs.Values.{Value, Number, FunctionAt, Pointer, Cell, Unwritten, Byte, Piece}
use Rattle.sc_meaning.specs.World.{Object, object_at}
use Rattle.sc_mem_store.specs.Holding.{byte_at}

-- a place in object 0, which no object is
abbrev pub is_nowhere : Value → Bool
is_nowhere (Number n) = false
is_nowhere (FunctionAt key) = false
is_nowhere (Pointer zero i) = true
is_nowhere (Pointer (suc o) i) = false

-- a piece of such a pointer
abbrev pub is_stray : Cell → Bool
is_stray Unwritten = false
is_stray (Byte b) = false
is_stray (Piece v k) = is_nowhere v

-- none of the n bytes from an address on is one
abbrev pub AreNone : Flat → List Key → ℕ → ℕ → Type 0
AreNone m functions base n = (i : ℕ) (c : Cell) → i < n → byte_at m functions (base + i) ≡ Some c → is_stray c ≡ false

-- none of the bytes of an object of memory is one, if it lives
abbrev pub HasNoneThere : Flat → List Key → ℕ → Type 0
HasNoneThere m functions id = (p : Obj) → IsLive m.objects id p → AreNone m functions p.base p.size

-- an object holds none, if it lives
abbrev pub HasNone : List Object → ℕ → Type 0
HasNone os id = (o : Object) → object_at os id ≡ Some o → o.live ≡ true → (i : ℕ) (c : Cell) → slice_get o.cells i ≡ Some c → is_stray c ≡ false

-- no live object holds one
abbrev pub HasNoStray : List Object → Type 0
HasNoStray os = (id : ℕ) → HasNone os id
