-- Yardstick: to be compared with what it restates (docs/TRUST.md).
-- Where a go halts among the events of a run.
use Rattle.std.specs.Prelude.{◌≡◌, ℕ, suc, ◌+◌, Bool, if◌then◌else◌, List, [], ◌∷◌, ◌++◌, Option, Some, None}

abbrev pub one_later : Option ℕ → Option ℕ
one_later None = None
one_later (Some n) = Some (suc n)

-- how many events there are up to the first that is selected, itself counted
abbrev pub first_of : {E : Type 0} → (E → Bool) → List E → Option ℕ
first_of sel [] = None
first_of sel (e ∷ es) = if sel e then Some 1 else one_later (first_of sel es)

-- none of these is selected
abbrev pub Free : {E : Type 0} → (E → Bool) → List E → Type 0
Free sel es = first_of sel es ≡ None

-- from the old events on, none that is selected was passed
abbrev pub GoesFree : {E : Type 0} → (E → Bool) → List E → List E → Type 0
GoesFree {E} sel old new = (more : List E) × (new ≡ old ++ more) × Free sel more

-- the weights of a list, taken together
abbrev pub total : {T : Type 0} → (T → ℕ) → List T → ℕ
total weight [] = 0
total weight (x ∷ xs) = weight x + total weight xs
