-- How a class keeps room for its taken blocks.
use Rattle.std.proofs.Common.{◌≡◌, ◌≢◌, inl, inr, ℕ, zero, suc, ◌+◌, ◌≤◌, List, [], ◌∷◌, length, set, get_or, map, ap, Some, arith, vec_capacity}
use Rattle.std.specs.List.{slice_get, All}
use Rattle.std.specs.List.Sorted.{IsStrictlySortedBy}
use Rattle.std.specs.Map.{keys_of, values_of, lookup, remove_entry}
use Rattle.std.specs.BTreeMap.{insert_entry, is_at}
use Rattle.std.specs.Ordering.{nat_cmp}
use Rattle.std.specs.declared.alloc.Global.{Global}
use Rattle.std.specs.declared.vec.Vec.{Vec}
use Rattle.std.proofs.lemmas.Cmp.{nat_cmp_total}
use Rattle.std.proofs.lemmas.Bool.Decides.{nat_tests}
use Rattle.std.proofs.lemmas.Map.Entries.{sum_by-insert_entry, sum_by-remove_entry, length-values_of}
use Rattle.std.proofs.lemmas.List.Sums.{sum_by-le}
use Rattle.sc_objects.specs.Roomy.{one_if, taken_of_class, HasRoom}
use Rattle.sc_objects.proofs.Lists.{slice_get-set}

pub one_if-same : (k : ℕ) → one_if k k ≡ 1
one_if-same k = grind (arith, nat_tests)

pub one_if-other : (j k : ℕ) → j ≢ k → one_if j k ≡ 0
one_if-other j k n = grind (arith, nat_tests)

pub one_if-most : (j k : ℕ) → one_if j k ≤ 1
one_if-most j k = grind (arith, nat_tests)

pub All-from_index : (ks : List ℕ) (k : ℕ) → All (λ (j : ℕ). one_if k j ≤ 1) ks
All-from_index ks k = λ i d l. one_if-most k (get_or ks i d)

pub taken-most : (taken : List (ℕ × ℕ)) (k : ℕ) → taken_of_class taken k ≤ length taken
taken-most taken k =
    let sums = sum_by-le (one_if k) 1 (values_of taken) (All-from_index (values_of taken) k) in
    let size = length-values_of taken in
    omega arith

pub taken-insert : (taken : List (ℕ × ℕ)) (base k j : ℕ) → IsStrictlySortedBy nat_cmp (keys_of taken) → taken_of_class (insert_entry nat_cmp taken base k) j ≤ taken_of_class taken j + one_if j k
taken-insert taken base k j ordered = let h = sum_by-insert_entry (one_if j) nat_cmp_total taken base k ordered in omega arith

pub taken-remove : (taken : List (ℕ × ℕ)) (base k j : ℕ) → lookup (is_at (nat_cmp base)) taken ≡ Some k → taken_of_class (remove_entry (is_at (nat_cmp base)) taken) j + one_if j k ≡ taken_of_class taken j
taken-remove taken base k j there = rw there at (sum_by-remove_entry (one_if j) (is_at (nat_cmp base)) taken)

pub room-change : (taken now : List (ℕ × ℕ)) (free : List (Vec ℕ Global)) (k : ℕ) (w : Vec ℕ Global) → HasRoom taken free → length w.items + taken_of_class now k ≤ vec_capacity w → ((j : ℕ) → j ≢ k → taken_of_class now j ≤ taken_of_class taken j) → HasRoom now (set free k w)
room-change taken now free k w room fits others j u h = elim (slice_get-set free k j w u h) [
  | inl p ↦ rw (p.1, p.0) fits
  | inr p ↦ let old = room j u p.1 in let less = others j p.0 in omega arith
]

pub items-at : (free : List (Vec ℕ Global)) (k : ℕ) (v : Vec ℕ Global) → slice_get free k ≡ Some v → get_or (map (λ (u : Vec ℕ Global). u.items) free) k [] ≡ v.items
items-at [] k v h = absurd (cc)
items-at (u ∷ us) zero v h = let e : u ≡ v = cc in ap (λ (x : Vec ℕ Global). x.items) e
items-at (u ∷ us) (suc k) v h = items-at us k v h
