-- Machine: the program once more; a theorem ties it to a yardstick (docs/TRUST.md).
-- The heap's blocks, by classes. A block of class k has 16 * 2 ^ k bytes.
use Rattle.std.specs.Prelude.{◌≡◌, ◌≢◌, ◌⊎◌, ℕ, ◌+◌, ◌*◌, ◌^◌, ◌<◌, ◌≤◌, List, [], ◌∷◌, ◌++◌, length, slice_get, slice_set, slice_index_or, Option, None, Some}
use Rattle.std.specs.Map.{lookup, remove_entry}
use Rattle.std.specs.BTreeMap.{insert_entry, is_at}
use Rattle.std.specs.Ordering.{nat_cmp}

-- A heap: its bytes; how many of them, from 0 up, were made blocks; the taken blocks, as a map in order from their
-- places to their classes; and for each class the places of its free blocks, the one freed last at the end.
pub record Blocks : Type 0 where
  pub bytes : ℕ
  pub used : ℕ
  pub taken : List (ℕ × ℕ)
  pub free : List (List ℕ)

abbrev pub block_size : ℕ → ℕ
block_size k = 16 * 2 ^ k

-- the class of a request of n bytes is the least whose blocks have at least n + 1
abbrev pub IsClass : ℕ → ℕ → Type 0
IsClass n k = (n + 1 ≤ block_size k) × ((j : ℕ) → n + 1 ≤ block_size j → k ≤ j)

-- the class of the taken block at a place
abbrev pub class_at : Blocks → ℕ → Option ℕ
class_at b base = lookup (is_at (nat_cmp base)) b.taken

-- the free blocks of a class
abbrev pub free_of : Blocks → ℕ → List ℕ
free_of b k = slice_index_or b.free k []

-- new is old with the block at `base` taken, of class k, and with these free blocks left in the class
abbrev pub taken_block : Blocks → ℕ → ℕ → List ℕ → Blocks
taken_block b base k rest = record { bytes = b.bytes; used = b.used; taken = insert_entry nat_cmp b.taken base k; free = slice_set b.free k rest }

abbrev pub taken_fresh : Blocks → ℕ → Blocks
taken_fresh b k = record { bytes = b.bytes; used = b.used + block_size k; taken = insert_entry nat_cmp b.taken b.used k; free = b.free }

-- A request for a block of class k takes the free block of the class that was freed last. Where none is free, it
-- takes a fresh one from the end of those made, if the heap has room for it.
abbrev pub Takes : Blocks → ℕ → Option ℕ → Blocks → Type 0
Takes old k None new = (free_of old k ≡ []) × (old.bytes < old.used + block_size k) × (new ≡ old)
Takes old k (Some base) new =
    ((rest : List ℕ) × (free_of old k ≡ rest ++ base ∷ []) × (new ≡ taken_block old base k rest))
    ⊎ ((free_of old k ≡ []) × (old.used + block_size k ≤ old.bytes) × (base ≡ old.used) × (new ≡ taken_fresh old k))

-- a block that is given back becomes the last of its class's free ones
abbrev pub given : Blocks → ℕ → ℕ → Blocks
given b base k = record { bytes = b.bytes; used = b.used; taken = remove_entry (is_at (nat_cmp base)) b.taken; free = slice_set b.free k (free_of b k ++ base ∷ []) }

-- two blocks, by places and classes, have no byte in common
abbrev pub Disjoint : ℕ → ℕ → ℕ → ℕ → Type 0
Disjoint a j c k = (a + block_size j ≤ c) ⊎ (c + block_size k ≤ a)

-- All blocks, taken and free, lie in the used part of the heap, and no two of them overlap. None is taken and free,
-- or free twice.
pub record IsTiled (b : Blocks) : Type 0 where
  pub classes : length b.free ≡ 29
  pub within : b.used ≤ b.bytes
  pub taken_within : (base k : ℕ) → class_at b base ≡ Some k → (k < 29) × (base + block_size k ≤ b.used)
  pub free_within : (k i base : ℕ) → slice_get (free_of b k) i ≡ Some base → base + block_size k ≤ b.used
  pub taken_apart : (a c j k : ℕ) → class_at b a ≡ Some j → class_at b c ≡ Some k → (a ≡ c) ⊎ Disjoint a j c k
  pub mixed_apart : (a j k i c : ℕ) → class_at b a ≡ Some j → slice_get (free_of b k) i ≡ Some c → Disjoint a j c k
  pub free_apart : (j i a k l c : ℕ) → slice_get (free_of b j) i ≡ Some a → slice_get (free_of b k) l ≡ Some c → ((j ≡ k) × (i ≡ l)) ⊎ Disjoint a j c k

-- all taken blocks stay taken
abbrev pub KeepsTaken : Blocks → Blocks → Type 0
KeepsTaken old new = (base k : ℕ) → class_at old base ≡ Some k → class_at new base ≡ Some k

-- all taken blocks stay taken but the one at a place
abbrev pub KeepsOthers : Blocks → Blocks → ℕ → Type 0
KeepsOthers old new place = (base k : ℕ) → base ≢ place → class_at old base ≡ Some k → class_at new base ≡ Some k
