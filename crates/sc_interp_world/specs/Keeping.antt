-- Inside: plumbing, a representation, an invariant or a promise beside the claim (docs/TRUST.md).
-- The objects of a run, and the memory that has their bytes at addresses, where it is seen.
use Rattle.std.specs.Prelude.{◌≡◌, ℕ, Bool, true, false, List, [], ◌∷◌, Option, Some, None, IfSome, option_map}
use Rattle.sc_base.specs.declared.key.Key.{Key}
use Rattle.sc_base.specs.declared.memory.Cell.{Cell as Stored}
use Rattle.sc_program.specs.declared.storage.StaticId.{StaticId}
use Rattle.sc_mem.specs.Safe.{Store}
use Rattle.sc_meaning.specs.Beside.{Beside, cell_kept_in}
use Rattle.sc_meaning.specs.Values.{Cell}
use Rattle.sc_meaning.specs.World.{Object, object_at, written}
use Rattle.sc_mem_store.specs.Holding.{meant}
use Rattle.sc_mem_store.specs.Kept.{Kept}
use Rattle.sc_mem_store.specs.Living.{IsBare, IsByteOf, IsLiveAt}

-- the functions have numbers where there is a memory
pub record Keeping : Type 0 where
  pub objects : List Object
  pub memory : Option Store
  pub functions : List Key

-- what is seen of a memory
abbrev pub keeping : Bool → Kept → Keeping
keeping true k = record { objects = k.objects; memory = Some k.memory; functions = k.functions }
keeping false k = record { objects = k.objects; memory = None; functions = [] }

-- what of it the world's view says beside the meaning
abbrev pub beside_of : Keeping → List (StaticId × ℕ) → Beside
beside_of k places = record { functions = k.functions; places = places; memory = k.memory }

abbrev pub moving : (List Object → List Object) → (Store → Store) → Keeping → Keeping
moving f g k = record { objects = f k.objects; memory = option_map g k.memory; functions = k.functions }

-- one cell is put at an address that is no live object's
abbrev pub IsPutBeside : ℕ → Stored → Keeping → Keeping → Type 0
IsPutBeside at x old new = IfSome old.memory (λ m. IsBare m.flat.objects at) × (new ≡ moving (λ os. os) (cell_kept_in at x) old)

-- or into a live object, as the byte that it stands for
abbrev pub IsPutInto : ℕ → ℕ → Cell → ℕ → Stored → Keeping → Keeping → Type 0
IsPutInto id offset c at x old new =
    IsLiveAt old.objects id offset × IfSome old.memory (λ m. IsByteOf m.flat.objects id offset at × (c ≡ meant old.functions m.flat.objects x))
    × (new ≡ moving (λ os. written os id offset (c ∷ []) (object_at os id)) (cell_kept_in at x) old)
