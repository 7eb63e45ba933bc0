-- Machine: the program once more; a theorem ties it to a yardstick (docs/TRUST.md).
-- Objects by number, each from its base through base + size.
use Rattle.std.specs.Prelude.{◌≡◌, ◌≢◌, ◌⊎◌, ℕ, zero, suc, ◌+◌, ◌-◌, ◌<◌, ◌≤◌, true, false, List, [], ◌∷◌, ◌++◌, slice_get, slice_set, Option, None, Some}
use Rattle.sc_objects.specs.declared.objects.Obj.{Obj}

-- the object with a number; numbers count from 1
abbrev pub object_of : List Obj → ℕ → Option Obj
object_of objects zero = None
object_of objects (suc k) = slice_get objects k

-- the live object with a number
abbrev pub IsLive : List Obj → ℕ → Obj → Type 0
IsLive objects id o = (object_of objects id ≡ Some o) × (o.live ≡ true)

-- two ranges, each from its base through base + size, have no number in common
abbrev pub Apart : ℕ → ℕ → ℕ → ℕ → Type 0
Apart base size other extent = (base + size < other) ⊎ (other + extent < base)

-- no two live objects have a number in common
abbrev pub AreApart : List Obj → Type 0
AreApart objects = (i j : ℕ) (o p : Obj) → IsLive objects i o → IsLive objects j p → i ≢ j → Apart o.base o.size p.base p.size

-- no number from base through base + size stands in a live object
abbrev pub IsClear : List Obj → ℕ → ℕ → Type 0
IsClear objects base size = (id : ℕ) (o : Obj) → IsLive objects id o → Apart o.base o.size base size

-- an address from the base through base + size of a live object
abbrev pub StandsAt : List Obj → ℕ → ℕ → Type 0
StandsAt objects id address = (o : Obj) × IsLive objects id o × (o.base ≤ address) × (address ≤ o.base + o.size)

-- the one live object at an address, or that there is none
abbrev pub IsObjectAt : List Obj → ℕ → Option ℕ → Type 0
IsObjectAt objects address None = (id : ℕ) → StandsAt objects id address → ⊥
IsObjectAt objects address (Some id) = StandsAt objects id address × ((other : ℕ) → StandsAt objects other address → other ≡ id)

-- the objects after one is born, which has the next number
abbrev pub born : List Obj → Obj → List Obj
born objects o = objects ++ o ∷ []

abbrev pub ended_at : List Obj → ℕ → Option Obj → List Obj
ended_at objects id None = objects
ended_at objects id (Some o) = slice_set objects (id - 1) (record o { live = false })

-- the objects after the life of one has ended
abbrev pub ended : List Obj → ℕ → List Obj
ended objects id = ended_at objects id (object_of objects id)
