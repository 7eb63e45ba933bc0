-- One more of a list.
use Rattle.std.proofs.Common.{◌≡◌, ℕ, zero, suc, List, [], ◌∷◌, ◌++◌, take, Option, None, Some, ap}
use Rattle.std.specs.Prelude.{slice_get}

abbrev Text : Type 0
Text = List ℕ

none-some : {A : Type 0} (x : Text) → let N : Option Text = None in N ≡ Some x → A
none-some x e = absurd cc

same : (x y : Text) → Some y ≡ Some x → x ≡ y
same x y e = cc

pub next : (xs : List Text) (n : ℕ) (x : Text) → slice_get xs n ≡ Some x → take n xs ++ x ∷ [] ≡ take (suc n) xs
next [] n x e = none-some x e
next (y ∷ ys) zero x e = ap (λ (z : Text). z ∷ []) (same x y e)
next (y ∷ ys) (suc n) x e = ap (λ (zs : List Text). y ∷ zs) (next ys n x e)
