-- Bytes that are written into an object, one after another.
use Rattle.std.proofs.Common.{◌≡◌, ℕ, zero, suc, ◌+◌, ◌-◌, ◌<◌, ◌≤◌, List, [], ◌∷◌, ◌++◌, length, set, take, drop, refl, sym, ap, subst, ◌∙◌, Option, Some, None, arith}
use Rattle.std.specs.List.{slice_get}
use Rattle.std.proofs.lemmas.Option.{slice_get_within, get_or_from_slice_get}
use Rattle.std.proofs.lemmas.List.{length-append, length-take, length-drop, append-nil, take-append-drop, take_more, take_all}
use Rattle.sc_cells.specs.Range.{with_range}
use Rattle.sc_cells.proofs.Ranges.{with_range-push, length-with_range}
use Rattle.sc_objects.proofs.Lists.{slice_get-set_same}
use Rattle.sc_meaning.specs.Values.{Value, Cell, cells_of}
use Rattle.sc_meaning.specs.World.{Object, object_at, written, overwritten}
use Rattle.sc_mem_store.specs.Holding.{IsInside}
use Rattle.sc_mem_store.proofs.Lists.{set-twice, set-same}
use Rattle.sc_mem_store.proofs.ValueBytes.{length_of_cells, none_of}
use Rattle.sc_mem_store.proofs.Holding.{with-byte}

pub nothing-over : (cells : List Cell) (at : ℕ) → overwritten cells at [] ≡ cells
nothing-over cells at =
    ap (λ front. front ++ drop (at + 0) cells) (append-nil (take at cells))
    ∙ ap (λ n. take at cells ++ drop n cells) (omega arith)
    ∙ take-append-drop at cells

pub nothing-in : (os : List Object) (k at : ℕ) (q : Option Object) → slice_get os k ≡ q → written os (suc k) at [] q ≡ os
nothing-in os k at None e = refl
nothing-in os k at (Some o) e = ap (λ (cells : List Cell). set os k (record o { cells = cells })) (nothing-over o.cells at) ∙ set-same os k o e

pub put_nothing : (os : List Object) (id at : ℕ) → written os id at [] (object_at os id) ≡ os
put_nothing os zero at = refl
put_nothing os (suc k) at = nothing-in os k at (slice_get os k) refl

pub inside-over : (cells xs : List Cell) (at : ℕ) → at + length xs < length (overwritten cells at xs) → at + length xs < length cells
inside-over cells xs at h =
    let size : length (overwritten cells at xs) ≡ length (take at cells) + length xs + (length cells - (at + length xs)) = simp (length-append, length-drop) (omega arith) in
    let front = length-take at cells in
    omega arith

pub byte-more : (cells xs : List Cell) (at : ℕ) (c : Cell) → at + length xs < length cells → overwritten (overwritten cells at xs) (at + length xs) (c ∷ []) ≡ overwritten cells at (xs ++ c ∷ [])
byte-more cells xs at c h =
    let size : length (with_range cells at xs) ≡ length cells = length-with_range cells at xs (omega arith) in
    with-byte (overwritten cells at xs) (at + length xs) c (rw size h) ∙ with_range-push cells at xs c h

pub more-in : (os : List Object) (k at : ℕ) (xs : List Cell) (c : Cell) (q : Option Object) → slice_get os k ≡ q → IsInside (written os (suc k) at xs q) (suc k) (at + length xs) → written (written os (suc k) at xs q) (suc k) (at + length xs) (c ∷ []) (slice_get (written os (suc k) at xs q) k) ≡ written os (suc k) at (xs ++ c ∷ []) q
more-in os k at xs c None e h = absurd (let none : None ≡ Some h.0 = sym e ∙ h.1 in cc)
more-in os k at xs c (Some o) e h =
    let o' : Object = record o { cells = overwritten o.cells at xs } in
    let here : slice_get (set os k o') k ≡ Some o' = slice_get-set_same os k o' (slice_get_within os k o e) in
    let two : Some o' ≡ Some h.0 = sym here ∙ h.1 in
    let same : o' ≡ h.0 = cc in
    let inside : at + length xs < length (overwritten o.cells at xs) = subst (λ (x : Object). at + length xs < length x.cells) (sym same) h.2 in
    let low = inside-over o.cells xs at inside in
    ap (λ q. written (set os k o') (suc k) (at + length xs) (c ∷ []) q) here
    ∙ (set-twice os k o' (record o { cells = overwritten (overwritten o.cells at xs) (at + length xs) (c ∷ []) })
    ∙ ap (λ (cells : List Cell). set os k (record o { cells = cells })) (byte-more o.cells xs at c low))

pub put_more : (os : List Object) (id at : ℕ) (xs : List Cell) (c : Cell) → IsInside (written os id at xs (object_at os id)) id (at + length xs) → written (written os id at xs (object_at os id)) id (at + length xs) (c ∷ []) (object_at (written os id at xs (object_at os id)) id) ≡ written os id at (xs ++ c ∷ []) (object_at os id)
put_more os zero at xs c h = absurd (cc (h.1))
put_more os (suc k) at xs c h = more-in os k at xs c (slice_get os k) refl h

-- one turn of a loop over the bytes
pub put_step : (first now new : List Object) (id at next n : ℕ) (cells : List Cell) (c : Cell) → now ≡ written first id at (take n cells) (object_at first id) → next ≡ at + n → slice_get cells n ≡ Some c → IsInside now id next → new ≡ written now id next (c ∷ []) (object_at now id) → new ≡ written first id at (take (n + 1) cells) (object_at first id)
put_step first now new id at next n cells c e f g h i =
    let within = slice_get_within cells n c g in
    let size : length (take n cells) ≡ n = simp length-take (omega arith) in
    let place : next ≡ at + length (take n cells) = f ∙ ap (λ k. at + k) (sym size) in
    let more : take (n + 1) cells ≡ take n cells ++ c ∷ [] = take_more cells n c within ∙ ap (λ x. take n cells ++ x ∷ []) (get_or_from_slice_get cells n c c g) in
    i
    ∙ (ap (λ (os : List Object). written os id next (c ∷ []) (object_at os id)) e
    ∙ (ap (λ k. written (written first id at (take n cells) (object_at first id)) id k (c ∷ []) (object_at (written first id at (take n cells) (object_at first id)) id)) place
    ∙ (put_more first id at (take n cells) c (subst (λ (os : List Object). IsInside os id (at + length (take n cells))) e (subst (λ k. IsInside now id k) place h))
    ∙ ap (λ xs. written first id at xs (object_at first id)) (sym more))))

pub put_all : (first now : List Object) (id at n : ℕ) (cells : List Cell) → now ≡ written first id at (take n cells) (object_at first id) → length cells ≤ n → now ≡ written first id at cells (object_at first id)
put_all first now id at n cells e l = e ∙ ap (λ xs. written first id at xs (object_at first id)) (take_all n cells l)

-- the bytes of a value, one after another
pub store_nothing : (os : List Object) (id at : ℕ) (v : Value) → written os id at (cells_of 0 v) (object_at os id) ≡ os
store_nothing os id at v = ap (λ xs. written os id at xs (object_at os id)) (none_of v) ∙ put_nothing os id at

pub store_step : (first now new : List Object) (id at next k n : ℕ) (v : Value) (c : Cell) → now ≡ written first id at (cells_of k v) (object_at first id) → next ≡ at + k → k < n → n ≤ 4 → cells_of (k + 1) v ≡ cells_of k v ++ c ∷ [] → IsInside now id next → new ≡ written now id next (c ∷ []) (object_at now id) → new ≡ written first id at (cells_of (k + 1) v) (object_at first id)
store_step first now new id at next k n v c e f l few more h i =
    let size : length (cells_of k v) ≡ k = length_of_cells v k (omega (arith, l, few)) in
    let place : next ≡ at + length (cells_of k v) = f ∙ ap (λ j. at + j) (sym size) in
    i
    ∙ (ap (λ (os : List Object). written os id next (c ∷ []) (object_at os id)) e
    ∙ (ap (λ j. written (written first id at (cells_of k v) (object_at first id)) id j (c ∷ []) (object_at (written first id at (cells_of k v) (object_at first id)) id)) place
    ∙ (put_more first id at (cells_of k v) c (subst (λ (os : List Object). IsInside os id (at + length (cells_of k v))) e (subst (λ j. IsInside now id j) place h))
    ∙ ap (λ xs. written first id at xs (object_at first id)) (sym more))))
