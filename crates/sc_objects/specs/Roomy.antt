-- Inside: plumbing, a representation, an invariant or a promise beside the claim (docs/TRUST.md).
-- What the heap's fields keep: its blocks are tiled, and each class has room for its taken blocks among the free ones.
use Rattle.std.specs.Prelude.{◌≡◌, ◌⊎◌, ℕ, ◌+◌, ◌<◌, ◌≤◌, ◌==◌, List, [], ◌∷◌, ◌++◌, length, Result, Ok, Err, None, map, slice_get, Option, Some, if◌then◌else◌, vec_capacity}
use Rattle.std.specs.List.{sum_by}
use Rattle.std.specs.Map.{values_of}
use Rattle.std.specs.BTreeMap.{BTreeMap, IsOrdered, Updates, insert_entry}
use Rattle.std.specs.declared.alloc.Global.{Global}
use Rattle.std.specs.declared.vec.Vec.{Vec}
use Rattle.std.specs.Ordering.{nat_cmp}
use Rattle.sc_base.specs.declared.NoMemory.{NoMemory}
use Rattle.sc_objects.specs.Blocks.{Blocks, IsTiled, block_size}

-- the heap that the fields stand for
abbrev pub blocks_of : ℕ → ℕ → BTreeMap ℕ ℕ → List (Vec ℕ Global) → Blocks
blocks_of bytes used taken free = record { bytes = bytes; used = used; taken = taken.entries; free = map (λ v. v.items) free }

abbrev pub one_if : ℕ → ℕ → ℕ
one_if k j = if j == k then 1 else 0

-- how many blocks of a class are taken
abbrev pub taken_of_class : List (ℕ × ℕ) → ℕ → ℕ
taken_of_class taken k = sum_by (one_if k) (values_of taken)

abbrev pub HasRoom : List (ℕ × ℕ) → List (Vec ℕ Global) → Type 0
HasRoom taken free = (k : ℕ) (v : Vec ℕ Global) → slice_get free k ≡ Some v → length v.items + taken_of_class taken k ≤ vec_capacity v

pub record IsKept (bytes used : ℕ) (taken : BTreeMap ℕ ℕ) (free : List (Vec ℕ Global)) : Type 0 where
  pub tiled : IsTiled (blocks_of bytes used taken free)
  pub room : HasRoom taken.entries free

-- all is as before, but for more room
abbrev pub Stays : ℕ → Vec ℕ Global → BTreeMap ℕ ℕ → ℕ → Vec ℕ Global → BTreeMap ℕ ℕ → Type 0
Stays used free taken used' free' taken' = (used' ≡ used) × (free'.items ≡ free.items) × (vec_capacity free ≤ vec_capacity free') × (taken'.entries ≡ taken.entries)

-- what taking a block of class k does to the bytes used, the free blocks of the class and the taken ones
abbrev pub Moves : ℕ → ℕ → ℕ → Vec ℕ Global → BTreeMap ℕ ℕ → ℕ → Vec ℕ Global → BTreeMap ℕ ℕ → Result (Option ℕ) NoMemory → Type 0
Moves bytes k used free taken used' free' taken' (Err e) = Stays used free taken used' free' taken'
Moves bytes k used free taken used' free' taken' (Ok None) = Stays used free taken used' free' taken' × (free.items ≡ []) × (bytes < used + block_size k)
Moves bytes k used free taken used' free' taken' (Ok (Some base)) =
    IsOrdered nat_cmp taken × Updates nat_cmp taken taken' base (Some k) × (taken'.entries ≡ insert_entry nat_cmp taken.entries base k)
    × (((free.items ≡ free'.items ++ base ∷ []) × (used' ≡ used) × (vec_capacity free' ≡ vec_capacity free))
    ⊎ ((free.items ≡ []) × (free'.items ≡ []) × (base ≡ used) × (used' ≡ used + block_size k) × (used + block_size k ≤ bytes) × (length taken.entries + 1 ≤ vec_capacity free')))
