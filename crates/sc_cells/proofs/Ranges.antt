-- Runs of a list that is written from one end to the other.
use Rattle.std.proofs.Common.{◌≡◌, ℕ, ◌+◌, ◌-◌, ◌<◌, ◌≤◌, List, [], ◌∷◌, ◌++◌, length, take, drop, set, get_or, refl, sym, ap, ◌∙◌, subst, arith, add-one}
use Rattle.std.proofs.lemmas.List.{places, take_more, drop_more, length-take, length-drop, length-append, length_push, set_at, append_assoc, take_more_set, set-append_left}
use Rattle.std.proofs.Math.Seq.{take-set-lt}
use Rattle.sc_cells.specs.Range.{range_of, with_range}

pub length-range_of : {A : Type 0} (all : List A) (at n : ℕ) → at + n ≤ length all → length (range_of all at n) ≡ n
length-range_of all at n h = search (arith, places)

pub length-with_range : {A : Type 0} (all : List A) (at : ℕ) (part : List A) → at + length part ≤ length all → length (with_range all at part) ≡ length all
length-with_range all at part h = simp (length-append, length-take, length-drop) (omega arith)

-- what stands before, in and after the new part
pub with_range-before : {A : Type 0} (all : List A) (at : ℕ) (part : List A) (j : ℕ) (d : A) → at + length part ≤ length all → j < at → get_or (with_range all at part) j d ≡ get_or all j d
with_range-before all at part j d h l = grind (arith, places)

pub with_range-in : {A : Type 0} (all : List A) (at : ℕ) (part : List A) (j : ℕ) (d : A) → at + length part ≤ length all → j < length part → get_or (with_range all at part) (at + j) d ≡ get_or part j d
with_range-in all at part j d h l = grind (arith, places)

pub with_range-after : {A : Type 0} (all : List A) (at : ℕ) (part : List A) (j : ℕ) (d : A) → at + length part ≤ length all → at + length part ≤ j → get_or (with_range all at part) j d ≡ get_or all j d
with_range-after all at part j d h l = grind (arith, places)

-- one more element at the end of the part, and one at its beginning
pub range_of-more : {A : Type 0} (all : List A) (at n : ℕ) (d : A) → at + n < length all → range_of all at (n + 1) ≡ range_of all at n ++ get_or all (at + n) d ∷ []
range_of-more all at n d h = grind (arith, places, take_more)

pub range_of-cons : {A : Type 0} (all : List A) (at n : ℕ) (d : A) → at < length all → range_of all at (n + 1) ≡ get_or all at d ∷ range_of all (at + 1) n
range_of-cons all at n d h = rw (drop_more all at d h) (rw (add-one n) refl)

pub with_range-push : {A : Type 0} (all : List A) (at : ℕ) (part : List A) (x : A) → at + length part < length all → set (with_range all at part) (at + length part) x ≡ with_range all at (part ++ x ∷ [])
with_range-push {A} all at part x h =
    let front : length (take at all ++ part) ≡ at + length part = simp (length-append, length-take) (omega arith) in
    let rest : drop (at + length part) all ≡ get_or all (at + length part) x ∷ drop (at + length part + 1) all = drop_more all (at + length part) x h in
    let one : at + length part + 1 ≡ at + length (part ++ x ∷ []) = rw (length_push part x) (omega arith) in
    rw (rest, set_at (take at all ++ part) (get_or all (at + length part) x) (drop (at + length part + 1) all) x (at + length part) front, one, ← append_assoc (take at all) part (x ∷ []), append_assoc (take at all ++ part) (x ∷ [])) refl

pub with_range-cons : {A : Type 0} (all : List A) (at : ℕ) (part : List A) (x : A) → at + 1 + length part ≤ length all → set (with_range all (at + 1) part) at x ≡ with_range all at (x ∷ part)
with_range-cons {A} all at part x h =
    let front : length (take (at + 1) all) ≡ at + 1 = simp length-take (omega arith) in
    let here : set (take (at + 1) all) at x ≡ take at all ++ x ∷ [] = sym (take-set-lt (at + 1) all at x (omega arith)) ∙ take_more_set all at x (omega arith) in
    let rest = drop (at + 1 + length part) all in
    let outer : set (take (at + 1) all ++ part ++ rest) at x ≡ set (take (at + 1) all ++ part) at x ++ rest = set-append_left (take (at + 1) all ++ part) rest at x (rw (length-append (take (at + 1) all) part) (omega arith)) in
    let inner : set (take (at + 1) all ++ part) at x ≡ set (take (at + 1) all) at x ++ part = set-append_left (take (at + 1) all) part at x (omega arith) in
    let ends : drop (at + 1 + length part) all ≡ drop (at + length (x ∷ part)) all = ap (λ n. drop n all) (omega arith) in
    outer ∙ (ap (λ (xs : List A). xs ++ rest) (inner ∙ (ap (λ (xs : List A). xs ++ part) here ∙ append_assoc (take at all) (x ∷ []) part)) ∙ ap (λ (xs : List A). take at all ++ x ∷ part ++ xs) ends)

-- one turn of a copy from the lowest element on, and of one from the highest down
pub upward-step : {A : Type 0} (first now : List A) (to from k : ℕ) (d : A) → from + k < length first → to ≤ from → now ≡ with_range first to (range_of first from k) → set now (to + k) (get_or now (from + k) d) ≡ with_range first to (range_of first from (k + 1))
upward-step {A} first now to from k d l below e =
    let n : length (range_of first from k) ≡ k = length-range_of first from k (omega arith) in
    let read : get_or now (from + k) d ≡ get_or first (from + k) d = rw e (with_range-after first to (range_of first from k) (from + k) d (rw n (omega arith)) (rw n (omega arith))) in
    rw (read, e, range_of-more first from k d l)
    (subst (λ (j : ℕ). set (with_range first to (range_of first from k)) (to + j) (get_or first (from + k) d) ≡ with_range first to (range_of first from k ++ get_or first (from + k) d ∷ [])) n
    (with_range-push first to (range_of first from k) (get_or first (from + k) d) (rw n (omega arith))))

pub downward-step : {A : Type 0} (first now : List A) (to from n k : ℕ) (d : A) → 0 < k → (k ≤ n) × (to + n ≤ length first) → from ≤ to → now ≡ with_range first (to + k) (range_of first (from + k) (n - k)) → set now (to + (k - 1)) (get_or now (from + (k - 1)) d) ≡ with_range first (to + (k - 1)) (range_of first (from + (k - 1)) (n - (k - 1)))
downward-step {A} first now to from n k d some (most, fits) above e =
    let part = range_of first (from + k) (n - k) in
    let size : length part ≡ n - k = length-range_of first (from + k) (n - k) (omega arith) in
    let at : to + k ≡ to + (k - 1) + 1 = omega arith in
    let source : from + k ≡ from + (k - 1) + 1 = omega arith in
    let count : n - (k - 1) ≡ n - k + 1 = omega arith in
    let read : get_or now (from + (k - 1)) d ≡ get_or first (from + (k - 1)) d = rw e (with_range-before first (to + k) part (from + (k - 1)) d (rw size (omega arith)) (omega arith)) in
    let whole : range_of first (from + (k - 1)) (n - (k - 1)) ≡ get_or first (from + (k - 1)) d ∷ part = rw (count, source) (range_of-cons first (from + (k - 1)) (n - k) d (omega arith)) in
    rw (read, e, whole)
    (subst (λ (j : ℕ). set (with_range first j part) (to + (k - 1)) (get_or first (from + (k - 1)) d) ≡ with_range first (to + (k - 1)) (get_or first (from + (k - 1)) d ∷ part)) (sym at)
    (with_range-cons first (to + (k - 1)) part (get_or first (from + (k - 1)) d) (rw size (omega arith))))
