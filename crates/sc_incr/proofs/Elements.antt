-- What stands at a place of a list.
use Rattle.std.proofs.Common.{◌≡◌, ℕ, zero, suc, ◌<◌, List, [], ◌∷◌, length, refl, Some, arith}
use Rattle.std.specs.List.{slice_get}

pub some-at : {A : Type 0} (xs : List A) (n : ℕ) → n < length xs → (x : A) × (slice_get xs n ≡ Some x)
some-at [] n l = absurd (omega arith)
some-at (x ∷ xs) zero l = (x, refl)
some-at (x ∷ xs) (suc n) l = some-at xs n (omega arith)
