-- Inside: plumbing, a representation, an invariant or a promise beside the claim (docs/TRUST.md).
-- What probes gained, each beside its mark.
use Rattle.std.specs.Prelude.{◌⊎◌, ◌∷◌, ◌≤◌, [], ℕ, List, length, Bool, Option, ⊤}
use Rattle.sc_base.specs.declared.note.Note.{Note}
use Rattle.sc_top.specs.Given.{GainedBy, first_mark, later_marks}
use Rattle.sc_top.specs.Hearing.{AreHeard}

-- some of them, in their order
abbrev pub AllGained : {A : Type 0} → (A → Option (List Note)) → (A → ℕ) → List Note → List A → List Bool → List A → List Bool → Type 0
AllGained notes faults given [] marks [] marks' = ⊤
AllGained notes faults given [] marks (q ∷ qs) marks' = ⊥
AllGained notes faults given (p ∷ ps) marks [] marks' = ⊤
AllGained notes faults given (p ∷ ps) marks (q ∷ qs) marks' =
    (GainedBy given (notes p) (notes q) (faults p) (faults q) (first_mark marks) (first_mark marks') × AllGained notes faults given ps (later_marks marks) qs (later_marks marks'))
    ⊎ AllGained notes faults given ps (later_marks marks) (q ∷ qs) marks'

pub record AreMarked {A : Type 0} (notes : A → Option (List Note)) (faults : A → ℕ) (before : List A) (marks : List Bool) (after : List A) (marks' : List Bool) : Type 0 where
  pub heard : AreHeard notes before after
  pub gained : length before ≤ 16 → (given : List Note) × AllGained notes faults given before marks after marks'
