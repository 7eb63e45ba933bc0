-- Yardstick: to be compared with what it restates (docs/TRUST.md).
-- What became of a list of probes: the first is there, others may have gone, and each that is left is one of those before, in their order.
-- Where it tells its notes, those that it had are the first of them; and all of them gained the same notes, but for those that lost one.
use Rattle.std.specs.Prelude.{◌≡◌, ◌⊎◌, ◌++◌, ◌∷◌, ◌≤◌, [], ℕ, List, length, Bool, true, false, Option, Some, None, ⊤}
use Rattle.sc_base.specs.declared.note.Note.{Note}
use Rattle.sc_top.specs.Given.{Hears}

abbrev pub Grew : Option (List Note) → Option (List Note) → Type 0
Grew None after = ⊤
Grew (Some before) None = ⊥
Grew (Some before) (Some after) = (more : List Note) × (after ≡ before ++ more)

-- some of them, in their order
abbrev pub AreLeft : {A : Type 0} → (A → Option (List Note)) → List A → List A → Type 0
AreLeft notes [] [] = ⊤
AreLeft notes [] (q ∷ qs) = ⊥
AreLeft notes (p ∷ ps) [] = ⊤
AreLeft notes (p ∷ ps) (q ∷ qs) = (Grew (notes p) (notes q) × AreLeft notes ps qs) ⊎ AreLeft notes ps (q ∷ qs)

-- the first, and some of the others
abbrev pub AreHeard : {A : Type 0} → (A → Option (List Note)) → List A → List A → Type 0
AreHeard notes [] [] = ⊤
AreHeard notes [] (q ∷ qs) = ⊥
AreHeard notes (p ∷ ps) [] = ⊥
AreHeard notes (p ∷ ps) (q ∷ qs) = Grew (notes p) (notes q) × AreLeft notes ps qs

-- what one gained of notes that all were given: all of them, while its count of faults stands; or those in front of one that it lost, and its count rose
abbrev pub Gained : List Note → Option (List Note) → Option (List Note) → ℕ → ℕ → Type 0
Gained given told told' lost lost' = (kept : Bool) × Hears told told' lost lost' given kept

-- some of them, in their order, each with what it gained
abbrev pub HaveGained : {A : Type 0} → (A → Option (List Note)) → (A → ℕ) → List Note → List A → List A → Type 0
HaveGained notes faults given [] [] = ⊤
HaveGained notes faults given [] (q ∷ qs) = ⊥
HaveGained notes faults given (p ∷ ps) [] = ⊤
HaveGained notes faults given (p ∷ ps) (q ∷ qs) =
    (Gained given (notes p) (notes q) (faults p) (faults q) × HaveGained notes faults given ps qs) ⊎ HaveGained notes faults given ps (q ∷ qs)

-- what is so of probes of which no more are there than have marks
pub record AreTold {A : Type 0} (notes : A → Option (List Note)) (faults : A → ℕ) (before after : List A) : Type 0 where
  pub heard : AreHeard notes before after
  pub gained : length before ≤ 16 → (given : List Note) × HaveGained notes faults given before after
