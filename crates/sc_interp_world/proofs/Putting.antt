-- Single cells that are put into the memory of a run.
use Rattle.std.proofs.Common.{◌≡◌, ℕ, ◌+◌, Bool, true, false, List, [], ◌∷◌, ◌++◌, length, refl, ap, subst, ◌∙◌, Option, Some, None, Result, Ok, Err, arith}
use Rattle.std.specs.Prelude.{IfOk, IfSome, MatchOption}
use Rattle.sc_base.specs.declared.NoMemory.{NoMemory}
use Rattle.sc_base.specs.declared.memory.Cell.{Cell as Stored}
use Rattle.sc_program.specs.declared.storage.StaticId.{StaticId}
use Rattle.sc_mem.specs.Safe.{Store}
use Rattle.sc_meaning.specs.Beside.{cell_kept_in, with_memory}
use Rattle.sc_meaning.specs.Values.{Cell}
use Rattle.sc_meaning.specs.World.{Object, Put, World, object_at, written}
use Rattle.sc_mem_store.specs.Holding.{meant}
use Rattle.sc_mem_store.specs.Kept.{Kept}
use Rattle.sc_mem_store.specs.Living.{HasCells, IsBare, IsByteOf, IsLiveAt}
use Rattle.sc_mem_store.specs.Puts as stored
use Rattle.sc_mem_store.specs.declared.store.Landed.{Landed}
use Rattle.sc_interp_world.specs.Keeping.{Keeping, keeping, beside_of, moving, IsPutBeside, IsPutInto}
use Rattle.sc_interp_world.specs.Putting.{PutsAt, IntoObject, BesideThem, PutsAll}
use Rattle.sc_interp_world.proofs.Keeping.{moved-by, objects_are}

-- what is seen of it
beside-seen : (b : Bool) (k : Kept) (at : ℕ) → IsBare k.memory.flat.objects at → IfSome (keeping b k).memory (λ m. IsBare m.flat.objects at)
beside-seen true k at h = h
beside-seen false k at h = tt

into-seen : (b : Bool) (k : Kept) (id offset at : ℕ) (c : Cell) (x : Stored) → IsByteOf k.memory.flat.objects id offset at → c ≡ meant k.functions k.memory.flat.objects x
    → IfSome (keeping b k).memory (λ m. IsByteOf m.flat.objects id offset at × (c ≡ meant (keeping b k).functions m.flat.objects x))
into-seen true k id offset at c x place means = (place, means)
into-seen false k id offset at c x place means = tt

pub put_seen : (r : Result (Option Landed) NoMemory) (b : Bool) (k new : Kept) (v : Keeping) (at : ℕ) (x : Stored) → keeping b k ≡ v
    → IfOk r (λ put. MatchOption put (stored.IsPutBeside at x k new) (λ l. stored.IsPutInto l.id l.offset l.byte at x k new))
    → IfOk r (λ put. MatchOption put (IsPutBeside at x v (keeping b new)) (λ l. IsPutInto l.id l.offset l.byte at x v (keeping b new)))
put_seen (Err e) b k new v at x is h = tt
put_seen (Ok None) b k new v at x is (bare, h) = (
  subst (λ (w : Keeping). IfSome w.memory (λ m. IsBare m.flat.objects at)) is (beside-seen b k at bare),
  subst (λ (w : Keeping). keeping b new ≡ moving (λ os. os) (cell_kept_in at x) w) is (moved-by b (λ os. os) (cell_kept_in at x) k new h),
)
put_seen (Ok (Some l)) b k new v at x is (place, live, means, h) = (
  subst (λ (os : List Object). IsLiveAt os l.id l.offset) (objects_are b k v is) live,
  subst (λ (w : Keeping). IfSome w.memory (λ m. IsByteOf m.flat.objects l.id l.offset at × (l.byte ≡ meant w.functions m.flat.objects x))) is (into-seen b k l.id l.offset at l.byte x place means),
  subst (λ (w : Keeping). keeping b new ≡ moving (λ os. written os l.id l.offset (l.byte ∷ []) (object_at os l.id)) (cell_kept_in at x) w) is
      (moved-by b (λ os. written os l.id l.offset (l.byte ∷ []) (object_at os l.id)) (cell_kept_in at x) k new h),
)

cells-seen : (b : Bool) (k : Kept) (from n : ℕ) (cells : List Stored) → (length cells ≡ n) × HasCells k.memory.flat from cells → IfSome (keeping b k).memory (λ m. (length cells ≡ n) × HasCells m.flat from cells)
cells-seen true k from n cells h = h
cells-seen false k from n cells h = tt

pub cells_seen : (r : Result (List Stored) NoMemory) (b : Bool) (k : Kept) (v : Keeping) (from n : ℕ) → keeping b k ≡ v → IfOk r (λ cells. (length cells ≡ n) × HasCells k.memory.flat from cells) → IfOk r (λ cells. IfSome v.memory (λ m. (length cells ≡ n) × HasCells m.flat from cells))
cells_seen (Err e) b k v from n is h = tt
cells_seen (Ok cells) b k v from n is h = subst (λ (w : Keeping). IfSome w.memory (λ m. (length cells ≡ n) × HasCells m.flat from cells)) is (cells-seen b k from n cells h)

-- in a world
pub puts_beside : (at : ℕ) (x : Stored) (old new : World) → IfSome old.beside.memory (λ m. IsBare m.flat.objects at) → new ≡ record old { beside = with_memory (cell_kept_in at x) old.beside } → PutsAt at x old new
puts_beside at x old new bare is = BesideThem bare is

-- what a world is with these objects and this memory
abbrev pub with_kept : World → Keeping → List (StaticId × ℕ) → World
with_kept w k places = record w { objects = k.objects; beside = beside_of k places }

-- a byte of an object was put, and the trail keeps it
pub put_noted : (at : ℕ) (x : Stored) (w new : World) (k after : Keeping) (places : List (StaticId × ℕ)) (id offset : ℕ) (c : Cell) → IsPutInto id offset c at x k after
    → new ≡ record (with_kept w after places) { trail = w.trail ++ Put id offset (c ∷ []) ∷ [] } → PutsAt at x (with_kept w k places) new
put_noted at x w new k after places id offset c (live, place, is) e =
    IntoObject id offset c live place (e ∙ ap (λ (j : Keeping). record (with_kept w j places) { trail = w.trail ++ Put id offset (c ∷ []) ∷ [] }) is)

-- one more
pub puts_more : (xs : List Stored) (at n : ℕ) (x : Stored) (a b c : World) → n ≡ at + length xs → PutsAll at xs a b → PutsAt n x b c → PutsAll at (xs ++ x ∷ []) a c
puts_more [] at n x a b c is h p =
    let here : n ≡ at = omega (arith, is) in
    (c, subst (λ (w : World). PutsAt at x w c) h (subst (λ k. PutsAt k x b c) here p), refl)
puts_more (y ∷ ys) at n x a b c is (mid, one, rest) p = (mid, one, puts_more ys (at + 1) n x mid b c (omega (arith, is)) rest p)
