-- Yardstick: to be compared with what it restates (docs/TRUST.md).
-- What probes have of the notes that they are given.
use Rattle.std.specs.Prelude.{◌≡◌, ℕ, zero, suc, ◌++◌, ◌∷◌, [], List, Bool, true, false, Option, Some, None, ⊤}
use Rattle.sc_base.specs.declared.note.Note.{Note}
use Rattle.sc_outside.specs.Causes.{Rose}
use Rattle.sc_interp_world.specs.declared.recorder.Entry.{Entry}
use Rattle.sc_top.specs.Spread.{spread}

-- Where a probe tells its notes: these came behind them, all where it kept each, else those in front of the one that was lost.
abbrev pub Takes : Option (List Note) → Option (List Note) → List Note → Bool → Type 0
Takes None after given kept = ⊤
Takes (Some before) None given kept = ⊥
Takes (Some before) (Some after) given true = after ≡ before ++ given
Takes (Some before) (Some after) given false =
    (front : List Note) × (lost : Note) × (rest : List Note) × (given ≡ front ++ lost ∷ rest) × (after ≡ before ++ front)

abbrev pub CountsLoss : ℕ → ℕ → Bool → Type 0
CountsLoss before after true = after ≡ before
CountsLoss before after false = Rose before after

-- what a probe has of some notes, by what it tells before and behind them: its notes, and its count of faults
pub record Hears (told told' : Option (List Note)) (lost lost' : ℕ) (given : List Note) (kept : Bool) : Type 0 where
  pub notes : Takes told told' given kept
  pub faults : CountsLoss lost lost' kept

-- what it has of the notes of an entry
pub record HearsEntry (told told' : Option (List Note)) (lost lost' : ℕ) (entry : Entry) (kept : Bool) : Type 0 where
  pub heard : Hears told told' lost lost' (spread entry) kept

-- What one has of some notes, and its mark before and behind them: one that was marked is let alone, and one that lost a note is marked.
abbrev pub IsGiven : {A : Type 0} → (A → Option (List Note)) → (A → ℕ) → List Note → A → A → Bool → Bool → Type 0
IsGiven notes faults given p q true mark = (q ≡ p) × (mark ≡ true)
IsGiven notes faults given p q false false = Hears (notes p) (notes q) (faults p) (faults q) given true
IsGiven notes faults given p q false true = Hears (notes p) (notes q) (faults p) (faults q) given false

-- the mark of the first, which is not set where there is none, and those of the others
abbrev pub first_mark : List Bool → Bool
first_mark [] = false
first_mark (m ∷ marks) = m

abbrev pub later_marks : List Bool → List Bool
later_marks [] = []
later_marks (m ∷ marks) = marks

-- what one gained of some notes, by what it tells before and behind them: one that was marked gained nothing, and one that lost a note is marked
abbrev pub GainedBy : List Note → Option (List Note) → Option (List Note) → ℕ → ℕ → Bool → Bool → Type 0
GainedBy given told told' lost lost' true mark = (told' ≡ told) × (lost' ≡ lost) × (mark ≡ true)
GainedBy given told told' lost lost' false false = Hears told told' lost lost' given true
GainedBy given told told' lost lost' false true = Hears told told' lost lost' given false

-- the same for the first n of a list, place by place; the others are let alone
abbrev pub EachIsGiven : {A : Type 0} → ℕ → (A → Option (List Note)) → (A → ℕ) → List Note → List A → List A → List Bool → List Bool → Type 0
EachIsGiven zero notes faults given ps qs marks marks' = (qs ≡ ps) × (marks' ≡ marks)
EachIsGiven (suc n) notes faults given [] [] marks marks' = marks' ≡ marks
EachIsGiven (suc n) notes faults given (p ∷ ps) (q ∷ qs) (m ∷ marks) (m' ∷ marks') = IsGiven notes faults given p q m m' × EachIsGiven n notes faults given ps qs marks marks'
EachIsGiven (suc n) notes faults given _ _ _ _ = ⊥

-- one that is marked, or tells no notes
abbrev pub IsUnheard : Option (List Note) → Bool → Type 0
IsUnheard told true = ⊤
IsUnheard told false = told ≡ None

-- each of the first n is
abbrev pub AreUnheard : {A : Type 0} → ℕ → (A → Option (List Note)) → List A → List Bool → Type 0
AreUnheard zero notes ps marks = ⊤
AreUnheard (suc n) notes [] marks = ⊤
AreUnheard (suc n) notes (p ∷ ps) [] = ⊥
AreUnheard (suc n) notes (p ∷ ps) (m ∷ marks) = IsUnheard (notes p) m × AreUnheard n notes ps marks
