-- What the probes of a list gained, step by step: the same notes, but for those that lost one.
use Rattle.std.proofs.Common.{◌≡◌, inl, inr, ℕ, zero, suc, ◌<◌, ◌≤◌, List, [], ◌∷◌, ◌++◌, length, map, replicate, Bool, true, false, ◌&&◌, if◌then◌else◌, Option, Some, None, sym, refl, ◌∙◌, ap, subst, arith}
use Rattle.std.specs.Prelude.{remove, nat_lt, ⊤}
use Rattle.std.proofs.lemmas.Bool.{ltb-true, lt-ltb}
use Rattle.sc_base.specs.declared.note.Note.{Note}
use Rattle.sc_outside.specs.Causes.{Rose}
use Rattle.sc_top.specs.Given.{Hears, GainedBy, IsGiven, EachIsGiven, first_mark, later_marks}
use Rattle.sc_top.specs.Hearing.{AreHeard, AreLeft, AreTold, Gained, HaveGained}
use Rattle.sc_top.specs.Listed.{marks_without, may_go}
use Rattle.sc_top.specs.Marked.{AllGained, AreMarked}
use Rattle.sc_top.proofs.Hearing.{takes_both, takes_part, takes_more, takes_nothing}
use Rattle.sc_top.proofs.Lasting.{heard_same, heard_on, heard_given, heard_dropped, heard_alike}

pub gained_none : (told : Option (List Note)) (lost : ℕ) (m : Bool) → GainedBy [] told told lost lost m m
gained_none told lost true = (refl, refl, refl)
gained_none told lost false = record { notes = takes_nothing told; faults = refl }

pub gained_alike : (told told' : Option (List Note)) (lost lost' : ℕ) (m : Bool) → told' ≡ told → lost' ≡ lost → GainedBy [] told told' lost lost' m m
gained_alike told told' lost lost' m same still =
    subst (λ t. GainedBy [] told t lost lost' m m) (sym same) (subst (λ n. GainedBy [] told told lost n m m) (sym still) (gained_none told lost m))

gained_on : (a b : List Note) (t t' t'' : Option (List Note)) (l l' l'' : ℕ) (m n o : Bool) → GainedBy a t t' l l' m n → GainedBy b t' t'' l' l'' n o → GainedBy (a ++ b) t t'' l l'' m o
gained_on a b t t' t'' l l' l'' true true o (same, still, mark) (same', still', mark') = (same' ∙ same, still' ∙ still, mark')
gained_on a b t t' t'' l l' l'' true false o (same, still, mark) k = absurd (cc)
gained_on a b t t' t'' l l' l'' false true true h (same, still, mark) =
    subst (λ x. Hears t x l l'' (a ++ b) false) (sym same) (subst (λ n. Hears t t' l n (a ++ b) false) (sym still) (record { notes = takes_more t t' a b h.notes; faults = h.faults }))
gained_on a b t t' t'' l l' l'' false true false h (same, still, mark) = absurd (cc)
gained_on a b t t' t'' l l' l'' false false true h k = record { notes = takes_part t t' t'' a b h.notes k.notes; faults = subst (λ n. Rose n l'') h.faults k.faults }
gained_on a b t t' t'' l l' l'' false false false h k = record { notes = takes_both t t' t'' a b h.notes k.notes; faults = k.faults ∙ h.faults }

all_none : {A : Type 0} (notes : A → Option (List Note)) (faults : A → ℕ) (ps : List A) (marks : List Bool) → AllGained notes faults [] ps marks ps marks
all_none notes faults [] marks = tt
all_none notes faults (p ∷ ps) marks = inl (gained_none (notes p) (faults p) (first_mark marks), all_none notes faults ps (later_marks marks))

all_on : {A : Type 0} (notes : A → Option (List Note)) (faults : A → ℕ) (a b : List Note) (ps qs rs : List A) (ms ns os : List Bool) → AllGained notes faults a ps ms qs ns → AllGained notes faults b qs ns rs os → AllGained notes faults (a ++ b) ps ms rs os
all_on notes faults a b [] [] [] ms ns os h k = tt
all_on notes faults a b [] [] (r ∷ rs) ms ns os h k = absurd k
all_on notes faults a b [] (q ∷ qs) rs ms ns os h k = absurd h
all_on notes faults a b (p ∷ ps) qs [] ms ns os h k = tt
all_on notes faults a b (p ∷ ps) [] (r ∷ rs) ms ns os h k = absurd k
all_on notes faults a b (p ∷ ps) (q ∷ qs) (r ∷ rs) ms ns os (inl (g, h)) (inl (f, k)) =
    inl (
      gained_on a b (notes p) (notes q) (notes r) (faults p) (faults q) (faults r) (first_mark ms) (first_mark ns) (first_mark os) g f,
      all_on notes faults a b ps qs rs (later_marks ms) (later_marks ns) (later_marks os) h k,
    )
all_on notes faults a b (p ∷ ps) (q ∷ qs) (r ∷ rs) ms ns os (inl (g, h)) (inr k) = inr (all_on notes faults a b ps qs (r ∷ rs) (later_marks ms) (later_marks ns) os h k)
all_on notes faults a b (p ∷ ps) (q ∷ qs) (r ∷ rs) ms ns os (inr h) k = inr (all_on notes faults a b ps (q ∷ qs) (r ∷ rs) (later_marks ms) ns os h k)

-- each tells the notes that it told, and counts the faults that it counted
pub same_head : {X : Type 0} (a b : X) (xs ys : List X) → a ∷ xs ≡ b ∷ ys → a ≡ b
same_head a b xs ys e = cc

pub same_tail : {X : Type 0} (a b : X) (xs ys : List X) → a ∷ xs ≡ b ∷ ys → xs ≡ ys
same_tail a b xs ys e = cc

all_alike : {A : Type 0} (notes : A → Option (List Note)) (faults : A → ℕ) (ps qs : List A) (marks : List Bool) → map notes qs ≡ map notes ps → map faults qs ≡ map faults ps → AllGained notes faults [] ps marks qs marks
all_alike notes faults [] [] marks same still = tt
all_alike notes faults [] (q ∷ qs) marks same still = absurd (cc)
all_alike notes faults (p ∷ ps) [] marks same still = tt
all_alike notes faults (p ∷ ps) (q ∷ qs) marks same still =
    inl (
      gained_alike (notes p) (notes q) (faults p) (faults q) (first_mark marks) (same_head (notes q) (notes p) (map notes qs) (map notes ps) same) (same_head (faults q) (faults p) (map faults qs) (map faults ps) still),
      all_alike notes faults ps qs (later_marks marks) (same_tail (notes q) (notes p) (map notes qs) (map notes ps) same) (same_tail (faults q) (faults p) (map faults qs) (map faults ps) still),
    )

-- what a go gives
pub gained_given : {A : Type 0} (notes : A → Option (List Note)) (faults : A → ℕ) (given : List Note) (p q : A) (m m' : Bool) → IsGiven notes faults given p q m m' → GainedBy given (notes p) (notes q) (faults p) (faults q) m m'
gained_given notes faults given p q true m' (same, mark) = (ap notes same, ap faults same, mark)
gained_given notes faults given p q false false h = h
gained_given notes faults given p q false true h = h

all_given : {A : Type 0} (notes : A → Option (List Note)) (faults : A → ℕ) (given : List Note) (n : ℕ) (ps qs : List A) (marks marks' : List Bool) → length ps ≤ n → EachIsGiven n notes faults given ps qs marks marks' → AllGained notes faults given ps marks qs marks'
all_given notes faults given zero [] qs marks marks' short (same, rest) = subst (λ zs. AllGained notes faults given [] marks zs marks') (sym same) tt
all_given notes faults given zero (p ∷ ps) qs marks marks' short e = absurd (omega (arith, short))
all_given notes faults given (suc n) [] [] marks marks' short e = tt
all_given notes faults given (suc n) [] (q ∷ qs) marks marks' short e = absurd e
all_given notes faults given (suc n) (p ∷ ps) [] marks marks' short e = tt
all_given notes faults given (suc n) (p ∷ ps) (q ∷ qs) [] marks' short e = absurd e
all_given notes faults given (suc n) (p ∷ ps) (q ∷ qs) (m ∷ marks) [] short e = absurd e
all_given notes faults given (suc n) (p ∷ ps) (q ∷ qs) (m ∷ marks) (m' ∷ marks') short (this, those) =
    inl (gained_given notes faults given p q m m' this, all_given notes faults given n ps qs marks marks' (omega (arith, short)) those)

-- one is dropped
all_skip : {A : Type 0} (notes : A → Option (List Note)) (faults : A → ℕ) (p : A) (ps qs : List A) (marks marks' : List Bool) → AllGained notes faults [] ps (later_marks marks) qs marks' → AllGained notes faults [] (p ∷ ps) marks qs marks'
all_skip notes faults p ps [] marks marks' h = tt
all_skip notes faults p ps (q ∷ qs) marks marks' h = inr h

-- one more mark that is not set makes no difference
all_longer : {A : Type 0} (notes : A → Option (List Note)) (faults : A → ℕ) (ps : List A) (marks : List Bool) → AllGained notes faults [] ps marks ps (marks ++ false ∷ [])
all_longer notes faults [] marks = tt
all_longer notes faults (p ∷ ps) [] = inl (gained_none (notes p) (faults p) false, all_none notes faults ps [])
all_longer notes faults (p ∷ ps) (m ∷ marks) = inl (gained_none (notes p) (faults p) m, all_longer notes faults ps marks)

without_marks : {A : Type 0} (notes : A → Option (List Note)) (faults : A → ℕ) (ps : List A) (k : ℕ) → AllGained notes faults [] ps [] (remove ps k) []
without_marks notes faults [] zero = tt
without_marks notes faults [] (suc k) = tt
without_marks notes faults (p ∷ ps) zero = all_skip notes faults p ps ps [] [] (all_none notes faults ps [])
without_marks notes faults (p ∷ ps) (suc k) = inl (gained_none (notes p) (faults p) false, without_marks notes faults ps k)

all_without : {A : Type 0} (notes : A → Option (List Note)) (faults : A → ℕ) (ps : List A) (k : ℕ) (marks : List Bool) → AllGained notes faults [] ps marks (remove ps k) (remove marks k ++ false ∷ [])
all_without notes faults [] zero marks = tt
all_without notes faults [] (suc k) marks = tt
all_without notes faults (p ∷ ps) zero [] = all_skip notes faults p ps ps [] (false ∷ []) (all_longer notes faults ps [])
all_without notes faults (p ∷ ps) zero (m ∷ marks) = all_skip notes faults p ps ps (m ∷ marks) (marks ++ false ∷ []) (all_longer notes faults ps marks)
all_without notes faults (p ∷ ps) (suc k) [] = inl (gained_none (notes p) (faults p) false, without_marks notes faults ps k)
all_without notes faults (p ∷ ps) (suc k) (m ∷ marks) = inl (gained_none (notes p) (faults p) m, all_without notes faults ps k marks)

right : (a b : Bool) → true ≡ (a && b) → b ≡ true
right false b e = absurd (cc)
right true b e = sym e

all_dropped : {A : Type 0} (notes : A → Option (List Note)) (faults : A → ℕ) (ps qs : List A) (marks marks' : List Bool) (k : ℕ) (gone : Bool) → gone ≡ may_go k (length ps) → qs ≡ (if gone then remove ps k else ps) → marks' ≡ (if gone then marks_without k marks else marks)
    → length ps ≤ 16 → AllGained notes faults [] ps marks qs marks'
all_dropped notes faults ps qs marks marks' k false found is marked short =
    subst (λ zs. AllGained notes faults [] ps marks zs marks') (sym is) (subst (λ ms. AllGained notes faults [] ps marks ps ms) (sym marked) (all_none notes faults ps marks))
all_dropped notes faults ps qs marks marks' k true found is marked short =
    let within : k < length ps = ltb-true k (length ps) (right (nat_lt 0 k) (nat_lt k (length ps)) found) in
    let inside : nat_lt k 16 ≡ true = lt-ltb k 16 (omega (arith, within, short)) in
    let without : marks_without k marks ≡ remove marks k ++ false ∷ [] = ap (λ b. if b then remove marks k ++ false ∷ [] else marks) inside in
    subst (λ zs. AllGained notes faults [] ps marks zs marks') (sym is)
    (subst (λ ms. AllGained notes faults [] ps marks (remove ps k) ms) (sym (marked ∙ without)) (all_without notes faults ps k marks))

-- no more are left than there were
shorter_left : {A : Type 0} (notes : A → Option (List Note)) (ps qs : List A) → AreLeft notes ps qs → length qs ≤ length ps
shorter_left notes [] [] h = omega arith
shorter_left notes [] (q ∷ qs) h = absurd h
shorter_left notes (p ∷ ps) [] h = omega arith
shorter_left notes (p ∷ ps) (q ∷ qs) (inl (g, h)) = (let less = shorter_left notes ps qs h in omega (arith, less))
shorter_left notes (p ∷ ps) (q ∷ qs) (inr h) = (let less = shorter_left notes ps (q ∷ qs) h in omega (arith, less))

shorter : {A : Type 0} (notes : A → Option (List Note)) (ps qs : List A) → AreHeard notes ps qs → length qs ≤ length ps
shorter notes [] [] h = omega arith
shorter notes [] (q ∷ qs) h = absurd h
shorter notes (p ∷ ps) [] h = absurd h
shorter notes (p ∷ ps) (q ∷ qs) (g, h) = (let less = shorter_left notes ps qs h in omega (arith, less))

-- ---- what becomes of the list

pub marked_same : {A : Type 0} (notes : A → Option (List Note)) (faults : A → ℕ) (ps : List A) (marks : List Bool) → AreMarked notes faults ps marks ps marks
marked_same notes faults ps marks = record { heard = heard_same notes ps; gained = λ short. ([], all_none notes faults ps marks) }

pub marked_on : {A : Type 0} {notes : A → Option (List Note)} {faults : A → ℕ} {ps qs rs : List A} {ms ns os : List Bool} → AreMarked notes faults ps ms qs ns → AreMarked notes faults qs ns rs os → AreMarked notes faults ps ms rs os
marked_on {notes = notes} {faults} {ps} {qs} {rs} {ms} {ns} {os} h k = record {
  heard = heard_on notes ps qs rs h.heard k.heard;
  gained = λ short. (let less = shorter notes ps qs h.heard in let first = h.gained short in let second = k.gained (omega (arith, less, short)) in
      (first.0 ++ second.0, all_on notes faults first.0 second.0 ps qs rs ms ns os first.1 second.1));
}

pub marked_alike : {A : Type 0} (notes : A → Option (List Note)) (faults : A → ℕ) (ps qs : List A) (marks : List Bool) → map notes qs ≡ map notes ps → map faults qs ≡ map faults ps → AreMarked notes faults ps marks qs marks
marked_alike notes faults ps qs marks same still = record { heard = heard_alike notes ps qs same; gained = λ short. ([], all_alike notes faults ps qs marks same still) }

pub marked_given : {A : Type 0} (notes : A → Option (List Note)) (faults : A → ℕ) (given : List Note) (ps qs : List A) (marks marks' : List Bool) → EachIsGiven 16 notes faults given ps qs marks marks' → AreMarked notes faults ps marks qs marks'
marked_given notes faults given ps qs marks marks' e = record {
  heard = heard_given notes faults given 16 ps qs marks marks' e;
  gained = λ short. (given, all_given notes faults given 16 ps qs marks marks' short e);
}

pub marked_dropped : {A : Type 0} (notes : A → Option (List Note)) (faults : A → ℕ) (ps qs : List A) (marks marks' : List Bool) (k : ℕ) (gone : Bool) → gone ≡ may_go k (length ps) → qs ≡ (if gone then remove ps k else ps)
    → marks' ≡ (if gone then marks_without k marks else marks) → AreMarked notes faults ps marks qs marks'
marked_dropped notes faults ps qs marks marks' k gone found is marked = record {
  heard = heard_dropped notes ps qs k (length ps) gone found is;
  gained = λ short. ([], all_dropped notes faults ps qs marks marks' k gone found is marked short);
}

-- ---- without the marks, none of which is set at first

one_gained : (given : List Note) (t t' : Option (List Note)) (l l' : ℕ) (m : Bool) → GainedBy given t t' l l' false m → Gained given t t' l l'
one_gained given t t' l l' false h = (true, h)
one_gained given t t' l l' true h = (false, h)

-- marks of which none is set
abbrev unmarked : List Bool → Type 0
unmarked [] = ⊤
unmarked (false ∷ marks) = unmarked marks
unmarked (true ∷ marks) = ⊥

first_unmarked : (marks : List Bool) → unmarked marks → first_mark marks ≡ false
first_unmarked [] u = refl
first_unmarked (false ∷ marks) u = refl
first_unmarked (true ∷ marks) u = absurd u

later_unmarked : (marks : List Bool) → unmarked marks → unmarked (later_marks marks)
later_unmarked [] u = tt
later_unmarked (false ∷ marks) u = u
later_unmarked (true ∷ marks) u = absurd u

have_gained : {A : Type 0} (notes : A → Option (List Note)) (faults : A → ℕ) (given : List Note) (ps qs : List A) (marks marks' : List Bool) → unmarked marks → AllGained notes faults given ps marks qs marks' → HaveGained notes faults given ps qs
have_gained notes faults given [] [] marks marks' u h = tt
have_gained notes faults given [] (q ∷ qs) marks marks' u h = absurd h
have_gained notes faults given (p ∷ ps) [] marks marks' u h = tt
have_gained notes faults given (p ∷ ps) (q ∷ qs) marks marks' u (inl (g, h)) =
    inl (
      one_gained given (notes p) (notes q) (faults p) (faults q) (first_mark marks') (subst (λ m. GainedBy given (notes p) (notes q) (faults p) (faults q) m (first_mark marks')) (first_unmarked marks u) g),
      have_gained notes faults given ps qs (later_marks marks) (later_marks marks') (later_unmarked marks u) h,
    )
have_gained notes faults given (p ∷ ps) (q ∷ qs) marks marks' u (inr h) = inr (have_gained notes faults given ps (q ∷ qs) (later_marks marks) marks' (later_unmarked marks u) h)

pub told_over : {A : Type 0} (notes : A → Option (List Note)) (faults : A → ℕ) (ps qs : List A) (marks marks' : List Bool) → marks ≡ replicate 16 false → AreMarked notes faults ps marks qs marks' → AreTold notes faults ps qs
told_over notes faults ps qs marks marks' fresh m = record {
  heard = m.heard;
  gained = λ short. (let all = m.gained short in (all.0, have_gained notes faults all.0 ps qs marks marks' (subst unmarked (sym fresh) tt) all.1));
}

have_none : {A : Type 0} (notes : A → Option (List Note)) (faults : A → ℕ) (ps : List A) → HaveGained notes faults [] ps ps
have_none notes faults [] = tt
have_none notes faults (p ∷ ps) = inl ((true, record { notes = takes_nothing (notes p); faults = refl }), have_none notes faults ps)

pub told_same : {A : Type 0} (notes : A → Option (List Note)) (faults : A → ℕ) (ps : List A) → AreTold notes faults ps ps
told_same notes faults ps = record { heard = heard_same notes ps; gained = λ short. ([], have_none notes faults ps) }
