-- Inside: plumbing, a representation, an invariant or a promise beside the claim (docs/TRUST.md).
-- Lists in which each element is there once.
use Rattle.std.specs.Prelude.{◌≡◌, ◌&&◌, ◌++◌, Bool, true, false, not, List, [], ◌∷◌}
use Rattle.std.specs.List.{list_any}

-- none of these is among those before it
abbrev pub are_new : {A : Type 0} → (A → A → Bool) → List A → List A → Bool
are_new eq done [] = true
are_new eq done (x ∷ xs) = not (list_any (eq x) done) && are_new eq (done ++ x ∷ []) xs

abbrev pub distinct : {A : Type 0} → (A → A → Bool) → List A → Bool
distinct eq xs = are_new eq [] xs

-- an element at the end of a list, where it is new
abbrev pub Adds : {A : Type 0} → (A → A → Bool) → A → List A → List A → Bool → Type 0
Adds eq x old new true = (list_any (eq x) old ≡ false) × (new ≡ old ++ x ∷ [])
Adds eq x old new false = list_any (eq x) old ≡ true
