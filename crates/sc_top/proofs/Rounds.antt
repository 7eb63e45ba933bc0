-- What the first probes of a list are given, place by place.
use Rattle.std.proofs.Common.{◌≡◌, ℕ, zero, suc, ◌+◌, ◌<◌, ◌≤◌, List, [], ◌∷◌, length, get_or, set, Bool, true, false, not, Option, Some, ap, sym, refl, ◌∙◌, subst, arith, min, unwrap_or}
use Rattle.std.specs.Prelude.{slice_get}
use Rattle.sc_base.specs.declared.note.Note.{Note}
use Rattle.sc_top.specs.Given.{Hears, IsGiven, EachIsGiven, IsUnheard, AreUnheard}

-- one that was not marked, with its new mark
pub heard_whole : {A : Type 0} (p q : A) (notes : A → Option (List Note)) (faults : A → ℕ) (given : List Note) (marked kept : Bool) → marked ≡ false
    → Hears (notes p) (notes q) (faults p) (faults q) given kept → IsGiven notes faults given p q marked (not kept)
heard_whole p q notes faults given true kept e h = absurd (cc)
heard_whole p q notes faults given false true e h = h
heard_whole p q notes faults given false false e h = h

some_is : {X : Type 0} (x y : X) → ◌≡◌ {A = Option X} (Some x) (Some y) → x ≡ y
some_is x y e = ap (λ o. unwrap_or o x) e

turn_unheard : {A : Type 0} (ps : List A) (notes : A → Option (List Note)) (k : ℕ) (marks : List Bool) (p : A) (m : Bool) → k < length ps → p ≡ get_or ps k p → slice_get marks k ≡ Some m → IsUnheard (notes p) m
    → AreUnheard k notes ps marks → AreUnheard (suc k) notes ps marks
turn_unheard [] notes k marks p m within is known this those = tt
turn_unheard (x ∷ ps) notes zero [] p m within is known this those = absurd (cc)
turn_unheard (x ∷ ps) notes zero (n ∷ marks) p m within is known this those =
    (subst (λ y. IsUnheard (notes y) n) is (subst (λ b. IsUnheard (notes p) b) (sym (some_is n m known)) this), tt)
turn_unheard (x ∷ ps) notes (suc k) [] p m within is known this those = absurd those
turn_unheard (x ∷ ps) notes (suc k) (n ∷ marks) p m within is known this those = (those.0, turn_unheard ps notes k marks p m (omega (arith, within)) is known this those.1)

pub end_unheard : {A : Type 0} (ps : List A) (notes : A → Option (List Note)) (k l : ℕ) (marks : List Bool) → k ≤ l → min (length ps) l ≤ k → AreUnheard k notes ps marks → AreUnheard l notes ps marks
end_unheard ps notes k zero marks low high those = tt
end_unheard [] notes k (suc l) marks low high those = tt
end_unheard (x ∷ ps) notes zero (suc l) marks low high those = absurd (omega (arith, high))
end_unheard (x ∷ ps) notes (suc k) (suc l) [] low high those = absurd those
end_unheard (x ∷ ps) notes (suc k) (suc l) (n ∷ marks) low high those = (those.0, end_unheard ps notes k l marks (omega (arith, low)) (omega (arith, high)) those.1)

pub more_unheard : {A : Type 0} (ps : List A) (notes : A → Option (List Note)) (k : ℕ) (marks : List Bool) (p : A) (m : Bool) → k < length ps → p ≡ get_or ps k p → slice_get marks k ≡ Some m → IsUnheard (notes p) m
    → AreUnheard k notes ps marks → AreUnheard (k + 1) notes ps marks
more_unheard ps notes k marks p m within is known this those =
    (let next : suc k ≡ k + 1 = omega arith in subst (λ n. AreUnheard n notes ps marks) next (turn_unheard ps notes k marks p m within is known this those))

turn_given : {A : Type 0} (ps qs : List A) (notes : A → Option (List Note)) (faults : A → ℕ) (given : List Note) (k : ℕ) (marks marks' : List Bool) (p q : A) (m m' : Bool) → k < length qs → p ≡ get_or qs k p → slice_get marks' k ≡ Some m
    → IsGiven notes faults given p q m m' → EachIsGiven k notes faults given ps qs marks marks' → EachIsGiven (suc k) notes faults given ps (set qs k q) marks (set marks' k m')
turn_given ps [] notes faults given zero marks marks' p q m m' within is known this those = absurd (omega (arith, within))
turn_given ps (x ∷ qs) notes faults given zero marks [] p q m m' within is known this those = absurd (cc)
turn_given ps (x ∷ qs) notes faults given zero marks (n ∷ marks') p q m m' within is known this those =
    subst (λ zs. EachIsGiven 1 notes faults given zs (q ∷ qs) marks (m' ∷ marks')) those.0
    (subst (λ ns. EachIsGiven 1 notes faults given (x ∷ qs) (q ∷ qs) ns (m' ∷ marks')) those.1
    (subst (λ y. IsGiven notes faults given y q n m') is (subst (λ b. IsGiven notes faults given p q b m') (sym (some_is n m known)) this), (refl, refl)))
turn_given [] [] notes faults given (suc k) marks marks' p q m m' within is known this those = absurd (omega (arith, within))
turn_given [] (x ∷ qs) notes faults given (suc k) marks marks' p q m m' within is known this those = absurd those
turn_given (y ∷ ps) [] notes faults given (suc k) marks marks' p q m m' within is known this those = absurd those
turn_given (y ∷ ps) (x ∷ qs) notes faults given (suc k) [] marks' p q m m' within is known this those = absurd those
turn_given (y ∷ ps) (x ∷ qs) notes faults given (suc k) (n ∷ marks) [] p q m m' within is known this those = absurd those
turn_given (y ∷ ps) (x ∷ qs) notes faults given (suc k) (n ∷ marks) (n' ∷ marks') p q m m' within is known this those =
    (those.0, turn_given ps qs notes faults given k marks marks' p q m m' (omega (arith, within)) is known this those.1)

pub more_given : {A : Type 0} (ps qs : List A) (notes : A → Option (List Note)) (faults : A → ℕ) (given : List Note) (k : ℕ) (marks marks' marks'' : List Bool) (p q : A) (m m' : Bool) → k < length qs
    → p ≡ get_or qs k p → slice_get marks' k ≡ Some m → marks'' ≡ set marks' k m' → IsGiven notes faults given p q m m' → EachIsGiven k notes faults given ps qs marks marks'
    → EachIsGiven (k + 1) notes faults given ps (set qs k q) marks marks''
more_given ps qs notes faults given k marks marks' marks'' p q m m' within is known marked this those =
    (let next : suc k ≡ k + 1 = omega arith in
    subst (λ ns. EachIsGiven (k + 1) notes faults given ps (set qs k q) marks ns) (sym marked)
    (subst (λ n. EachIsGiven n notes faults given ps (set qs k q) marks (set marks' k m')) next (turn_given ps qs notes faults given k marks marks' p q m m' within is known this those)))

pub end_given : {A : Type 0} (ps qs : List A) (notes : A → Option (List Note)) (faults : A → ℕ) (given : List Note) (k l : ℕ) (marks marks' : List Bool) → k ≤ l → min (length ps) l ≤ k → EachIsGiven k notes faults given ps qs marks marks' → EachIsGiven l notes faults given ps qs marks marks'
end_given ps qs notes faults given zero zero marks marks' low high those = those
end_given ps qs notes faults given (suc k) zero marks marks' low high those = absurd (omega (arith, low))
end_given [] qs notes faults given zero (suc l) marks marks' low high those = subst (λ zs. EachIsGiven (suc l) notes faults given [] zs marks marks') (sym those.0) those.1
end_given (x ∷ ps) qs notes faults given zero (suc l) marks marks' low high those = absurd (omega (arith, high))
end_given [] [] notes faults given (suc k) (suc l) marks marks' low high those = those
end_given [] (y ∷ qs) notes faults given (suc k) (suc l) marks marks' low high those = absurd those
end_given (x ∷ ps) [] notes faults given (suc k) (suc l) marks marks' low high those = absurd those
end_given (x ∷ ps) (y ∷ qs) notes faults given (suc k) (suc l) [] marks' low high those = absurd those
end_given (x ∷ ps) (y ∷ qs) notes faults given (suc k) (suc l) (n ∷ marks) [] low high those = absurd those
end_given (x ∷ ps) (y ∷ qs) notes faults given (suc k) (suc l) (n ∷ marks) (n' ∷ marks') low high those =
    (those.0, end_given ps qs notes faults given k l marks marks' (omega (arith, low)) (omega (arith, high)) those.1)

mark_same : (marks : List Bool) (k : ℕ) (m : Bool) → slice_get marks k ≡ Some m → set marks k m ≡ marks
mark_same [] k m known = absurd (cc)
mark_same (n ∷ marks) zero m known = ap (λ b. b ∷ marks) (sym (some_is n m known))
mark_same (n ∷ marks) (suc k) m known = ap (λ ms. n ∷ ms) (mark_same marks k m known)

was_unmarked : {A : Type 0} (p q : A) (notes : A → Option (List Note)) (faults : A → ℕ) (given : List Note) (m : Bool) → IsGiven notes faults given p q m false → m ≡ false
was_unmarked p q notes faults given true this = absurd (let e = this.1 in cc)
was_unmarked p q notes faults given false this = refl

-- one whose mark is not set had none
pub more_kept : {A : Type 0} (ps qs : List A) (notes : A → Option (List Note)) (faults : A → ℕ) (given : List Note) (k : ℕ) (marks marks' marks'' : List Bool) (p q : A) (m : Bool) → k < length qs
    → p ≡ get_or qs k p → slice_get marks' k ≡ Some m → marks'' ≡ marks' → IsGiven notes faults given p q m false → EachIsGiven k notes faults given ps qs marks marks'
    → EachIsGiven (k + 1) notes faults given ps (set qs k q) marks marks''
more_kept ps qs notes faults given k marks marks' marks'' p q m within is known same this those =
    more_given ps qs notes faults given k marks marks' marks'' p q m false within is known
    (same ∙ sym (mark_same marks' k false (known ∙ ap (λ b. Some b) (was_unmarked p q notes faults given m this)))) this those
