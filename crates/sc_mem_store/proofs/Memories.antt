-- What each change makes of the memory, as the world's view has it.
use Rattle.std.proofs.Common.{◌≡◌, ◌≢◌, inl, inr, ℕ, zero, suc, ◌+◌, ◌-◌, ◌*◌, ◌^◌, ◌<◌, ◌≤◌, nat_le, Bool, true, false, if◌then◌else◌, List, [], ◌∷◌, ◌++◌, length, map, set, take, drop, refl, sym, ap, subst, ◌∙◌, Option, Some, None, arith}
use Rattle.std.specs.List.{slice_get}
use Rattle.std.specs.Option.{IsSome}
use Rattle.std.proofs.lemmas.Bool.{cases_eq}
use Rattle.std.proofs.lemmas.Option.{slice_get_within, get_or_from_slice_get}
use Rattle.std.proofs.lemmas.Bool.Decides.{nat_tests}
use Rattle.std.proofs.lemmas.List.{length-append, length_push, length-take, append-nil, take-append-drop, take_more, take_all}
use Rattle.sc_base.specs.declared.key.Key.{Key}
use Rattle.sc_base.specs.declared.memory.Kind.{Kind}
use Rattle.sc_base.specs.declared.memory.Kind.TheVariants as kind
use Rattle.sc_base.specs.declared.memory.Cell.{Cell as Stored}
use Rattle.sc_objects.specs.declared.objects.Obj.{Obj}
use Rattle.sc_objects.specs.Numbered.{object_of, IsLive}
use Rattle.sc_objects.specs.Blocks.{Blocks, IsClass, Takes, block_size, class_at, free_of, given, taken_block, taken_fresh}
use Rattle.sc_objects.proofs.Lists.{slice_get-last}
use Rattle.sc_cells.specs.Range.{with_range}
use Rattle.sc_cells.proofs.Ranges.{with_range-push, length-with_range}
use Rattle.sc_mem.proofs.Runs.{put-one}
use Rattle.sc_mem.specs.Flat.{Flat, place, place_in, put, written_at, with_birth, with_death}
use Rattle.sc_mem.specs.Safe.{Store, IsSafe}
use Rattle.sc_mem_store.specs.Holding.{IsReached}
use Rattle.sc_mem_store.proofs.Cells.{some-is, place-bound}
use Rattle.sc_mem_store.proofs.Holding.{objects-stay}
use Rattle.sc_mem_store.specs.Kept.{Kept}
use Rattle.sc_mem_store.proofs.ValueBytes.{length_of_cells, none_of}
use Rattle.sc_meaning.specs.World.{Object, object_at, written}
use Rattle.sc_meaning.specs.Values.{Cell, Value, cells_of}
use Rattle.sc_base.specs.declared.memory.Word.{Word}
use Rattle.sc_meaning.specs.Classes.{class_from}
use Rattle.sc_meaning.specs.Beside.{kept_in, cell_kept_in, born_in, died_in, put_in, written_in, stored_of, object, block_or, block_for, last_free, released, released_as, given_back, given_class}

pub store_is : (s t : Store) → s.flat ≡ t.flat → s.blocks ≡ t.blocks → s ≡ t
store_is s t e f = λ i. record { flat = e i; blocks = f i }

-- births
pub born_at : (old new : Store) (size : ℕ) (k : Kind) (base : ℕ) → new.flat ≡ with_birth old.flat (object size k base) → new.blocks ≡ old.blocks → new ≡ born_in size k (Some base) old
born_at old new size k base e f = store_is new (born_in size k (Some base) old) e f

from-true : (a b : ℕ) → nat_le a b ≡ true → a ≤ b
from-true a b e = grind (arith, nat_tests)

from-false : (a b : ℕ) → nat_le a b ≡ false → a ≤ b → ⊥
from-false a b e l = grind (arith, nat_tests)

class_is : (more k n j : ℕ) → IsClass n j → k ≤ j → j ≤ k + more → class_from more k n ≡ j
class_is zero k n j c low high = omega arith
class_is (suc more) k n j c low high = by (nat_le (n + 1) (block_size k)) refl (λ l. class_is more (k + 1) n j c l (omega arith))
  where
    by : (b : Bool) → nat_le (n + 1) (block_size k) ≡ b → (k + 1 ≤ j → class_from more (k + 1) n ≡ j) → (if b then k else class_from more (k + 1) n) ≡ j
    by true e on = let fits : n + 1 ≤ block_size k = from-true (n + 1) (block_size k) e in let least = c.1 k fits in omega arith
    by false e on =
        elim (cases_eq k j) [
          | inl same ↦ absurd (let fits : n + 1 ≤ block_size k = subst (λ x. n + 1 ≤ block_size x) (sym same) c.0 in from-false (n + 1) (block_size k) e fits)
          | inr other ↦ on (omega arith)
        ]

take-front : {A : Type 0} (xs : List A) (x : A) → take (length xs) (xs ++ x ∷ []) ≡ xs
take-front [] x = refl
take-front (y ∷ ys) x = ap (λ zs. y ∷ zs) (take-front ys x)

takes_is : (b new : Blocks) (k at : ℕ) → Takes b k (Some at) new → block_or k b (last_free b k) ≡ (at, new)
takes_is b new k at (inl (rest, e, is)) =
    let xs : List ℕ = rest ++ at ∷ [] in
    let count : length xs - 1 ≡ length rest = let l = length_push rest at in omega arith in
    let last : last_free b k ≡ Some at = ap (λ (ys : List ℕ). slice_get ys (length ys - 1)) e ∙ (ap (slice_get xs) count ∙ slice_get-last rest at) in
    let front : take (length (free_of b k) - 1) (free_of b k) ≡ rest = ap (λ (ys : List ℕ). take (length ys - 1) ys) e ∙ (ap (λ n. take n xs) count ∙ take-front rest at) in
    ap (block_or k b) last ∙ (ap (λ (ys : List ℕ). (at, taken_block b at k ys)) front ∙ ap (λ (x : Blocks). (at, x)) (sym is))
takes_is b new k at (inr (none, room, here, is)) =
    let last : last_free b k ≡ None = ap (λ (ys : List ℕ). slice_get ys (length ys - 1)) none in
    ap (block_or k b) last ∙ (ap (λ n. (n, taken_fresh b k)) (sym here) ∙ ap (λ (x : Blocks). (at, x)) (sym is))

pub born_block : (old new : Store) (size k at : ℕ) → size < 2 ^ 32 → IsClass size k → Takes old.blocks k (Some at) new.blocks → new.flat ≡ with_birth old.flat (object size kind.Heap (0x10000000 + at)) → new ≡ born_in size kind.Heap None old
born_block old new size k at few class takes is =
    let low : k ≤ 28 = class.1 28 (omega (arith, few)) in
    let name : class_from 29 0 size ≡ k = class_is 29 0 size k class (omega arith) (omega arith) in
    let block : block_for old.blocks size ≡ (at, new.blocks) = ap (λ c. block_or c old.blocks (last_free old.blocks c)) name ∙ takes_is old.blocks new.blocks k at takes in
    store_is new (born_in size kind.Heap None old)
    (is ∙ ap (λ (x : ℕ × Blocks). with_birth old.flat (object size kind.Heap (0x10000000 + x.0))) (sym block))
    (ap (λ (x : ℕ × Blocks). x.1) (sym block))

-- deaths
pub died_nowhere : (s : Store) (id : ℕ) → object_of s.flat.objects id ≡ None → s ≡ died_in id s
died_nowhere s id e = store_is s (died_in id s) (rw e refl) (rw e refl)

pub died_other : (old new : Store) (id : ℕ) (o : Obj) → IsLive old.flat.objects id o → o.kind ≢ kind.Heap → new.flat ≡ with_death old.flat id → new.blocks ≡ old.blocks → new ≡ died_in id old
died_other old new id o live n e f =
    let same : released old.blocks (object_of old.flat.objects id) ≡ old.blocks = ap (released old.blocks) live.0 ∙ other o.kind n in
    store_is new (died_in id old) e (f ∙ sym same)
  where
    other : (k : Kind) → k ≢ kind.Heap → released_as old.blocks o.base k ≡ old.blocks
    other kind.Heap n = absurd (n refl)
    other kind.Static n = refl
    other kind.Const n = refl
    other kind.Literal n = refl
    other kind.Auto n = refl

pub died_heap : (old mid new : Store) (id k : ℕ) (o : Obj) → IsLive old.flat.objects id o → o.kind ≡ kind.Heap → mid.flat ≡ with_death old.flat id → mid.blocks ≡ old.blocks → class_at mid.blocks (o.base - 0x10000000) ≡ Some k → new.blocks ≡ given mid.blocks (o.base - 0x10000000) k → new.flat ≡ mid.flat → new ≡ died_in id old
died_heap old mid new id k o live heap e f class g h =
    let at : ℕ = o.base - 0x10000000 in
    let there : class_at old.blocks at ≡ Some k = ap (λ (b : Blocks). class_at b at) (sym f) ∙ class in
    let same : released old.blocks (object_of old.flat.objects id) ≡ given old.blocks at k =
    ap (released old.blocks) live.0 ∙ (ap (released_as old.blocks o.base) heap ∙ ap (given_class old.blocks at) there) in
    store_is new (died_in id old) (h ∙ e) (g ∙ (ap (λ (b : Blocks). given b at k) f ∙ sym same))

-- puts, byte by byte
pub place-sub : (heap stack base n i at k : ℕ) → heap ≤ 67108864 → stack ≤ 16777216 → place_in heap stack base n ≡ Some i → at + k ≤ n → 0 < k → place_in heap stack (base + at) k ≡ Some (i + at)
place-sub heap stack base n i at k h s e l p = grind (arith, nat_tests)

map-push : {A B : Type 0} (f : A → B) (xs : List A) (x : A) → map f (xs ++ x ∷ []) ≡ map f xs ++ f x ∷ []
map-push f [] x = refl
map-push f (y ∷ ys) x = ap (λ zs. f y ∷ zs) (map-push f ys x)

length-mapped : {A B : Type 0} (f : A → B) (xs : List A) → length (map f xs) ≡ length xs
length-mapped f [] = refl
length-mapped f (x ∷ xs) = ap suc (length-mapped f xs)

over-nothing : (cells : List Stored) (at : ℕ) → with_range cells at [] ≡ cells
over-nothing cells at = ap (λ front. front ++ drop (at + 0) cells) (append-nil (take at cells)) ∙ ap (λ n. take at cells ++ drop n cells) (omega arith) ∙ take-append-drop at cells

nothing_at : (m : Flat) (q : Option ℕ) → written_at m q [] ≡ m
nothing_at m None = refl
nothing_at m (Some i) = ap (λ (cells : List Stored). record m { cells = cells }) (over-nothing m.cells i)

nothing_in : (fs : List Key) (m : Flat) (at : ℕ) (q : Option Obj) → written_in fs at [] m q ≡ m
nothing_in fs m at None = refl
nothing_in fs m at (Some p) = nothing_at m (place m (p.base + at) 0)

pub put_in_nothing : (fs : List Key) (s : Store) (id at : ℕ) → put_in fs id at [] s ≡ s
put_in_nothing fs s id at = store_is (put_in fs id at [] s) s (nothing_in fs s.flat at (object_of s.flat.objects id)) refl

over-more : (cells part : List Stored) (i : ℕ) (c : Stored) → i + length part < length cells → with_range (with_range cells i part) (i + length part) (c ∷ []) ≡ with_range cells i (part ++ c ∷ [])
over-more cells part i c h =
    let size : length (with_range cells i part) ≡ length cells = length-with_range cells i part (omega (arith, h)) in
    sym (put-one (with_range cells i part) (i + length part) c (rw size h)) ∙ with_range-push cells i part c h

flat_more : (fs : List Key) (m : Flat) (p : Obj) (i at : ℕ) (xs : List Cell) (c : Cell) → m.heap ≤ 67108864 → m.stack ≤ 16777216 → place_in m.heap m.stack p.base p.size ≡ Some i → i + p.size ≤ length m.cells → at + length xs < p.size → written_in fs (at + length xs) (c ∷ []) (written_in fs at xs m (Some p)) (Some p) ≡ written_in fs at (xs ++ c ∷ []) m (Some p)
flat_more fs m p i at [] c h s e b l =
    ap (λ (x : Flat). written_in fs (at + 0) (c ∷ []) x (Some p)) (nothing_at m (place m (p.base + at) 0)) ∙ ap (λ n. written_in fs n (c ∷ []) m (Some p)) (omega arith)
flat_more fs m p i at (y ∷ ys) c h s e b l =
    let xs : List Cell = y ∷ ys in
    let f : Cell → Stored = stored_of fs m.objects in
    let part : List Stored = map f xs in
    let n : ℕ = length xs in
    let count : length part ≡ n = length-mapped f xs in
    let one : place m (p.base + at) n ≡ Some (i + at) = place-sub m.heap m.stack p.base p.size i at n h s e (omega (arith, l)) (omega arith) in
    let m1 : Flat = record m { cells = with_range m.cells (i + at) part } in
    let two : place m (p.base + (at + n)) 1 ≡ Some (i + (at + n)) = place-sub m.heap m.stack p.base p.size i (at + n) 1 h s e (omega (arith, l)) (omega arith) in
    let all : length (xs ++ c ∷ []) ≡ n + 1 = length_push xs c in
    let three : place m (p.base + at) (length (xs ++ c ∷ [])) ≡ Some (i + at) = place-sub m.heap m.stack p.base p.size i at (length (xs ++ c ∷ [])) h s e (omega (arith, l, all)) (omega (arith, all)) in
    let where_is : i + (at + n) ≡ i + at + length part = omega (arith, count) in
    let cells : with_range (with_range m.cells (i + at) part) (i + (at + n)) (f c ∷ []) ≡ with_range m.cells (i + at) (map f (xs ++ c ∷ [])) =
    ap (λ j. with_range (with_range m.cells (i + at) part) j (f c ∷ [])) where_is
    ∙ (over-more m.cells part (i + at) (f c) (omega (arith, l, b, count)) ∙ ap (with_range m.cells (i + at)) (sym (map-push f xs c))) in
    ap (λ q. written_in fs (at + n) (c ∷ []) (written_at m q part) (Some p)) one
    ∙ (ap (λ q. written_at m1 q (f c ∷ [])) two
    ∙ (ap (λ (cs : List Stored). record m { cells = cs }) cells ∙ sym (ap (λ q. written_at m q (map f (xs ++ c ∷ []))) three)))

objects_in : (fs : List Key) (at : ℕ) (xs : List Cell) (m : Flat) (q : Option Obj) → (written_in fs at xs m q).objects ≡ m.objects
objects_in fs at xs m None = refl
objects_in fs at xs m (Some p) = objects-stay m (place m (p.base + at) (length xs)) (map (stored_of fs m.objects) xs)

pub put_in_more : (fs : List Key) (s : Store) (id at : ℕ) (xs : List Cell) (c : Cell) → IsSafe s → IsReached s id (at + length xs) → put_in fs id (at + length xs) (c ∷ []) (put_in fs id at xs s) ≡ put_in fs id at (xs ++ c ∷ []) s
put_in_more fs s id at xs c safe (p, e, live, few) =
    let m = s.flat in
    let (i, area) = some-is (place m p.base p.size) (safe.within id p (e, live)) in
    let bound : i + p.size ≤ length m.cells = rw safe.sized (place-bound m.heap m.stack p.base p.size i safe.heap safe.stack area) in
    let now : Flat = written_in fs at xs m (object_of m.objects id) in
    let table : object_of now.objects id ≡ Some p = ap (λ (t : List Obj). object_of t id) (objects_in fs at xs m (object_of m.objects id)) ∙ e in
    store_is (put_in fs id (at + length xs) (c ∷ []) (put_in fs id at xs s)) (put_in fs id at (xs ++ c ∷ []) s)
    (ap (written_in fs (at + length xs) (c ∷ []) now) table
    ∙ (ap (λ (q : Option Obj). written_in fs (at + length xs) (c ∷ []) (written_in fs at xs m q) (Some p)) e
    ∙ (flat_more fs m p i at xs c safe.heap safe.stack area bound few ∙ sym (ap (written_in fs at (xs ++ c ∷ []) m) e))))
    refl

pub put_one : (fs : List Key) (old new : Store) (id at a : ℕ) (p : Obj) (c : Cell) (x : Stored) → object_of old.flat.objects id ≡ Some p → a ≡ p.base + at → x ≡ stored_of fs old.flat.objects c → new.flat ≡ written_at old.flat (place old.flat a 1) (x ∷ []) → new.blocks ≡ old.blocks → new ≡ put_in fs id at (c ∷ []) old
put_one fs old new id at a p c x e place_is is flat blocks =
    let m = old.flat in
    store_is new (put_in fs id at (c ∷ []) old)
    (flat ∙ (ap (λ b. written_at m (place m b 1) (x ∷ [])) place_is ∙ (ap (λ y. written_at m (place m (p.base + at) 1) (y ∷ [])) is ∙ sym (ap (written_in fs at (c ∷ []) m) e))))
    blocks

reach_first : (fs : List Key) (first now : Store) (id at j : ℕ) (xs : List Cell) → now ≡ put_in fs id at xs first → IsReached now id j → IsReached first id j
reach_first fs first now id at j xs is (p, e, live, few) =
    let same : now.flat.objects ≡ first.flat.objects = ap (λ (s : Store). s.flat.objects) is ∙ objects_in fs at xs first.flat (object_of first.flat.objects id) in
    (p, sym (ap (λ (t : List Obj). object_of t id) same) ∙ e, live, few)

-- one turn of a loop over bytes
pub memory_step : (fs : List Key) (first now new : Store) (id at next : ℕ) (xs more : List Cell) (c : Cell) → IsSafe first → now ≡ put_in fs id at xs first → next ≡ at + length xs → more ≡ xs ++ c ∷ [] → IsReached now id next → new ≡ put_in fs id next (c ∷ []) now → new ≡ put_in fs id at more first
memory_step fs first now new id at next xs more c safe is n m r new_is =
    let there : IsReached first id (at + length xs) = subst (IsReached first id) n (reach_first fs first now id at next xs is r) in
    new_is ∙ (ap (put_in fs id next (c ∷ [])) is ∙ (ap (λ k. put_in fs id k (c ∷ []) (put_in fs id at xs first)) n ∙ (put_in_more fs first id at xs c safe there ∙ ap (λ ys. put_in fs id at ys first) (sym m))))

pub put_turn : (first now new : Kept) (os : List Object) (id at next n : ℕ) (cells : List Cell) (c : Cell) → IsSafe first.memory → now.memory ≡ put_in first.functions id at (take n cells) first.memory → now.functions ≡ first.functions → next ≡ at + n → slice_get cells n ≡ Some c → IsReached now.memory id next → new ≡ record { objects = os; memory = put_in now.functions id next (c ∷ []) now.memory; functions = now.functions } → (new.memory ≡ put_in first.functions id at (take (n + 1) cells) first.memory) × (new.functions ≡ first.functions)
put_turn first now new os id at next n cells c safe is fs m there reach e =
    let within = slice_get_within cells n c there in
    let size : length (take n cells) ≡ n = simp length-take (omega arith) in
    let more : take (n + 1) cells ≡ take n cells ++ c ∷ [] = take_more cells n c within ∙ ap (λ x. take n cells ++ x ∷ []) (get_or_from_slice_get cells n c c there) in (
      memory_step first.functions first.memory now.memory new.memory id at next (take n cells) (take (n + 1) cells) c safe is (omega (arith, m, size)) more reach
          (ap (λ (k : Kept). k.memory) e ∙ ap (λ gs. put_in gs id next (c ∷ []) now.memory) fs),
      ap (λ (k : Kept). k.functions) e ∙ fs,
    )

pub store_turn : (first now new : Kept) (os : List Object) (id at next k n : ℕ) (v : Value) (c : Cell) → IsSafe first.memory → now.memory ≡ put_in first.functions id at (cells_of k v) first.memory → now.functions ≡ first.functions → next ≡ at + k → k < n → n ≤ 4 → cells_of (k + 1) v ≡ cells_of k v ++ c ∷ [] → IsReached now.memory id next → new ≡ record { objects = os; memory = put_in now.functions id next (c ∷ []) now.memory; functions = now.functions } → (new.memory ≡ put_in first.functions id at (cells_of (k + 1) v) first.memory) × (new.functions ≡ first.functions)
store_turn first now new os id at next k n v c safe is fs m l few more reach e =
    let size : length (cells_of k v) ≡ k = length_of_cells v k (omega (arith, l, few)) in (
      memory_step first.functions first.memory now.memory new.memory id at next (cells_of k v) (cells_of (k + 1) v) c safe is (omega (arith, m, size)) more reach
          (ap (λ (x : Kept). x.memory) e ∙ ap (λ gs. put_in gs id next (c ∷ []) now.memory) fs),
      ap (λ (x : Kept). x.functions) e ∙ fs,
    )

pub kept_is : (x y : Kept) → x.objects ≡ y.objects → x.memory ≡ y.memory → x.functions ≡ y.functions → x ≡ y
kept_is x y e f g = λ i. record { objects = e i; memory = f i; functions = g i }

pub put_done : (first now : Kept) (id at n : ℕ) (cells : List Cell) → now.objects ≡ written first.objects id at (take n cells) (object_at first.objects id) → now.memory ≡ put_in first.functions id at (take n cells) first.memory → now.functions ≡ first.functions → length cells ≤ n → now ≡ record { objects = written first.objects id at cells (object_at first.objects id); memory = put_in first.functions id at cells first.memory; functions = first.functions }
put_done first now id at n cells e f g l =
    kept_is now (record { objects = written first.objects id at cells (object_at first.objects id); memory = put_in first.functions id at cells first.memory; functions = first.functions })
    (e ∙ ap (λ xs. written first.objects id at xs (object_at first.objects id)) (take_all n cells l)) (f ∙ ap (λ xs. put_in first.functions id at xs first.memory) (take_all n cells l)) g

pub store_nothing_in : (fs : List Key) (s : Store) (id at : ℕ) (v : Value) → put_in fs id at (cells_of 0 v) s ≡ s
store_nothing_in fs s id at v = ap (λ xs. put_in fs id at xs s) (none_of v) ∙ put_in_nothing fs s id at

-- a word beside objects
pub kept_stored : (old new : Store) (at size : ℕ) (w : Word) → new.flat ≡ put old.flat at size w → new.blocks ≡ old.blocks → new ≡ kept_in at size w old
kept_stored old new at size w e f = store_is new (kept_in at size w old) e f

-- one cell is put
pub cell_kept : (old new : Store) (a : ℕ) (x : Stored) → new.flat ≡ written_at old.flat (place old.flat a 1) (x ∷ []) → new.blocks ≡ old.blocks → new ≡ cell_kept_in a x old
cell_kept old new a x e f = store_is new (cell_kept_in a x old) e f
