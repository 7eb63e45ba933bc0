-- What became of a list of probes, step by step.
use Rattle.std.proofs.Common.{◌≡◌, inl, inr, ℕ, zero, suc, List, [], ◌∷◌, ◌++◌, map, Bool, true, false, if◌then◌else◌, Option, Some, None, sym, refl, ◌∙◌, ap, subst, append_assoc, append-nil}
use Rattle.std.specs.Prelude.{remove}
use Rattle.sc_base.specs.declared.note.Note.{Note}
use Rattle.sc_top.specs.Given.{Hears, IsGiven, EachIsGiven}
use Rattle.sc_top.specs.Hearing.{AreHeard, AreLeft, Grew}
use Rattle.sc_top.specs.Listed.{may_go}

grew_same : (told : Option (List Note)) → Grew told told
grew_same None = tt
grew_same (Some notes) = ([], sym (append-nil notes))

grew_on : (a b c : Option (List Note)) → Grew a b → Grew b c → Grew a c
grew_on None b c p q = tt
grew_on (Some a) None c p q = absurd p
grew_on (Some a) (Some b) None p q = absurd q
grew_on (Some a) (Some b) (Some c) (more, p) (later, q) = (more ++ later, q ∙ ap (λ x. x ++ later) p ∙ append_assoc a more later)

left_same : {A : Type 0} (notes : A → Option (List Note)) (ps : List A) → AreLeft notes ps ps
left_same notes [] = tt
left_same notes (p ∷ ps) = inl (grew_same (notes p), left_same notes ps)

left_on : {A : Type 0} (notes : A → Option (List Note)) (ps qs rs : List A) → AreLeft notes ps qs → AreLeft notes qs rs → AreLeft notes ps rs
left_on notes [] [] [] h k = tt
left_on notes [] [] (r ∷ rs) h k = absurd k
left_on notes [] (q ∷ qs) rs h k = absurd h
left_on notes (p ∷ ps) qs [] h k = tt
left_on notes (p ∷ ps) [] (r ∷ rs) h k = absurd k
left_on notes (p ∷ ps) (q ∷ qs) (r ∷ rs) (inl (g, h)) (inl (f, k)) = inl (grew_on (notes p) (notes q) (notes r) g f, left_on notes ps qs rs h k)
left_on notes (p ∷ ps) (q ∷ qs) (r ∷ rs) (inl (g, h)) (inr k) = inr (left_on notes ps qs (r ∷ rs) h k)
left_on notes (p ∷ ps) (q ∷ qs) (r ∷ rs) (inr h) k = inr (left_on notes ps (q ∷ qs) (r ∷ rs) h k)

pub heard_same : {A : Type 0} (notes : A → Option (List Note)) (ps : List A) → AreHeard notes ps ps
heard_same notes [] = tt
heard_same notes (p ∷ ps) = (grew_same (notes p), left_same notes ps)

pub heard_on : {A : Type 0} (notes : A → Option (List Note)) (ps qs rs : List A) → AreHeard notes ps qs → AreHeard notes qs rs → AreHeard notes ps rs
heard_on notes [] [] rs h k = k
heard_on notes [] (q ∷ qs) rs h k = absurd h
heard_on notes (p ∷ ps) [] rs h k = absurd h
heard_on notes (p ∷ ps) (q ∷ qs) [] h k = absurd k
heard_on notes (p ∷ ps) (q ∷ qs) (r ∷ rs) (g, h) (f, k) = (grew_on (notes p) (notes q) (notes r) g f, left_on notes ps qs rs h k)

-- what a go gives
grew_given : {A : Type 0} (notes : A → Option (List Note)) (faults : A → ℕ) (given : List Note) (p q : A) (m m' : Bool) → IsGiven notes faults given p q m m' → Grew (notes p) (notes q)
grew_given notes faults given p q true m' (same, mark) = subst (λ x. Grew (notes p) (notes x)) (sym same) (grew_same (notes p))
grew_given notes faults given p q false false h = taken (notes p) (notes q) h.notes
  where
    taken : (a b : Option (List Note)) → Rattle.sc_top.specs.Given.Takes a b given true → Grew a b
    taken None b t = tt
    taken (Some a) None t = absurd t
    taken (Some a) (Some b) t = (given, t)
grew_given notes faults given p q false true h = taken (notes p) (notes q) h.notes
  where
    taken : (a b : Option (List Note)) → Rattle.sc_top.specs.Given.Takes a b given false → Grew a b
    taken None b t = tt
    taken (Some a) None t = absurd t
    taken (Some a) (Some b) (front, lost, rest, is, same) = (front, same)

left_given : {A : Type 0} (notes : A → Option (List Note)) (faults : A → ℕ) (given : List Note) (n : ℕ) (ps qs : List A) (marks marks' : List Bool) → EachIsGiven n notes faults given ps qs marks marks' → AreLeft notes ps qs
left_given notes faults given zero ps qs marks marks' (same, rest) = subst (λ zs. AreLeft notes ps zs) (sym same) (left_same notes ps)
left_given notes faults given (suc n) [] [] marks marks' e = tt
left_given notes faults given (suc n) [] (q ∷ qs) marks marks' e = absurd e
left_given notes faults given (suc n) (p ∷ ps) [] marks marks' e = tt
left_given notes faults given (suc n) (p ∷ ps) (q ∷ qs) [] marks' e = absurd e
left_given notes faults given (suc n) (p ∷ ps) (q ∷ qs) (m ∷ marks) [] e = absurd e
left_given notes faults given (suc n) (p ∷ ps) (q ∷ qs) (m ∷ marks) (m' ∷ marks') (this, those) =
    inl (grew_given notes faults given p q m m' this, left_given notes faults given n ps qs marks marks' those)

pub heard_given : {A : Type 0} (notes : A → Option (List Note)) (faults : A → ℕ) (given : List Note) (n : ℕ) (ps qs : List A) (marks marks' : List Bool) → EachIsGiven n notes faults given ps qs marks marks' → AreHeard notes ps qs
heard_given notes faults given zero ps qs marks marks' (same, rest) = subst (λ zs. AreHeard notes ps zs) (sym same) (heard_same notes ps)
heard_given notes faults given (suc n) [] [] marks marks' e = tt
heard_given notes faults given (suc n) [] (q ∷ qs) marks marks' e = absurd e
heard_given notes faults given (suc n) (p ∷ ps) [] marks marks' e = absurd e
heard_given notes faults given (suc n) (p ∷ ps) (q ∷ qs) [] marks' e = absurd e
heard_given notes faults given (suc n) (p ∷ ps) (q ∷ qs) (m ∷ marks) [] e = absurd e
heard_given notes faults given (suc n) (p ∷ ps) (q ∷ qs) (m ∷ marks) (m' ∷ marks') (this, those) =
    (grew_given notes faults given p q m m' this, left_given notes faults given n ps qs marks marks' those)

-- one is dropped
left_skip : {A : Type 0} (notes : A → Option (List Note)) (p : A) (ps qs : List A) → AreLeft notes ps qs → AreLeft notes (p ∷ ps) qs
left_skip notes p ps [] h = tt
left_skip notes p ps (q ∷ qs) h = inr h

left_without : {A : Type 0} (notes : A → Option (List Note)) (ps : List A) (k : ℕ) → AreLeft notes ps (remove ps k)
left_without notes [] zero = tt
left_without notes [] (suc k) = tt
left_without notes (p ∷ ps) zero = left_skip notes p ps ps (left_same notes ps)
left_without notes (p ∷ ps) (suc k) = inl (grew_same (notes p), left_without notes ps k)

heard_without : {A : Type 0} (notes : A → Option (List Note)) (ps : List A) (k : ℕ) → AreHeard notes ps (remove ps (suc k))
heard_without notes [] k = tt
heard_without notes (p ∷ ps) k = (grew_same (notes p), left_without notes ps k)

-- the first never is
pub heard_dropped : {A : Type 0} (notes : A → Option (List Note)) (ps qs : List A) (k n : ℕ) (gone : Bool) → gone ≡ may_go k n → qs ≡ (if gone then remove ps k else ps) → AreHeard notes ps qs
heard_dropped notes ps qs k n false found is = subst (λ zs. AreHeard notes ps zs) (sym is) (heard_same notes ps)
heard_dropped notes ps qs zero n true found is = absurd (cc)
heard_dropped notes ps qs (suc k) n true found is = subst (λ zs. AreHeard notes ps zs) (sym is) (heard_without notes ps k)

same_head : (a b : Option (List Note)) (xs ys : List (Option (List Note))) → a ∷ xs ≡ b ∷ ys → a ≡ b
same_head a b xs ys e = cc

same_tail : (a b : Option (List Note)) (xs ys : List (Option (List Note))) → a ∷ xs ≡ b ∷ ys → xs ≡ ys
same_tail a b xs ys e = cc

-- each tells the notes that it told
left_alike : {A : Type 0} (notes : A → Option (List Note)) (ps qs : List A) → map notes qs ≡ map notes ps → AreLeft notes ps qs
left_alike notes [] [] is = tt
left_alike notes [] (q ∷ qs) is = absurd (cc)
left_alike notes (p ∷ ps) [] is = tt
left_alike notes (p ∷ ps) (q ∷ qs) is =
    inl (subst (λ x. Grew (notes p) x) (sym (same_head (notes q) (notes p) (map notes qs) (map notes ps) is)) (grew_same (notes p)), left_alike notes ps qs (same_tail (notes q) (notes p) (map notes qs) (map notes ps) is))

pub heard_alike : {A : Type 0} (notes : A → Option (List Note)) (ps qs : List A) → map notes qs ≡ map notes ps → AreHeard notes ps qs
heard_alike notes [] [] is = tt
heard_alike notes [] (q ∷ qs) is = absurd (cc)
heard_alike notes (p ∷ ps) [] is = absurd (cc)
heard_alike notes (p ∷ ps) (q ∷ qs) is =
    (subst (λ x. Grew (notes p) x) (sym (same_head (notes q) (notes p) (map notes qs) (map notes ps) is)) (grew_same (notes p)), left_alike notes ps qs (same_tail (notes q) (notes p) (map notes qs) (map notes ps) is))
