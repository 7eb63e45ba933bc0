-- One more turn of a loop over a list, and its end, over plain values.
use Rattle.std.proofs.Common.{◌≡◌, ◌<◌, ◌≤◌, ◌+◌, ℕ, List, ◌++◌, ◌∷◌, [], length, take, get_or, sym, ap, ◌∙◌}
use Rattle.std.specs.Prelude.{fold, flat_map}
use Rattle.std.proofs.lemmas.List.{append_assoc, take_more, take_all, flat_map_more}
use Rattle.std.proofs.lemmas.List.Sums.{fold_more}

module _ {X Y : Type 0} (f : Y → X → Y) (a : Y) (xs : List X) where
  pub fold_step : (i : ℕ) (x : X) (y z : Y) → y ≡ fold f a (take i xs) → z ≡ f y x → x ≡ get_or xs i x → i < length xs → z ≡ fold f a (take (i + 1) xs)
  fold_step i x y z inv z-is x-is below = z-is ∙ (λ t. f (inv t) (x-is t)) ∙ sym (fold_more f a xs i x below)

  pub fold_end : (i : ℕ) (y : Y) → y ≡ fold f a (take i xs) → length xs ≤ i → y ≡ fold f a xs
  fold_end i y inv over = inv ∙ ap (fold f a) (take_all i xs over)

module _ {X : Type 0} (f : X → List ℕ) (a : List ℕ) (xs : List X) where
  pub flat_step : (i : ℕ) (x : X) (y z : List ℕ) → y ≡ a ++ flat_map f (take i xs) → z ≡ y ++ f x → x ≡ get_or xs i x → i < length xs
      → z ≡ a ++ flat_map f (take (i + 1) xs)
  flat_step i x y z inv z-is x-is below =
      z-is ∙ (λ t. inv t ++ f x) ∙ flat_map_more f a (take i xs) x
      ∙ ap (λ v. a ++ flat_map f (take i xs ++ v ∷ [])) x-is
      ∙ ap (λ v. a ++ flat_map f v) (sym (take_more xs i x below))

  pub flat_end : (i : ℕ) (y : List ℕ) → y ≡ a ++ flat_map f (take i xs) → length xs ≤ i → y ≡ a ++ flat_map f xs
  flat_end i y inv over = inv ∙ ap (λ v. a ++ flat_map f v) (take_all i xs over)

-- several parts one behind another
more : (a w v b c : List ℕ) → b ≡ a ++ w → c ≡ b ++ v → c ≡ a ++ (w ++ v)
more a w v b c e f = f ∙ ap (λ z. z ++ v) e ∙ append_assoc a w v

pub three : (a w1 w2 w3 b1 b2 b3 : List ℕ) → b1 ≡ a ++ w1 → b2 ≡ b1 ++ w2 → b3 ≡ b2 ++ w3 → b3 ≡ a ++ ((w1 ++ w2) ++ w3)
three a w1 w2 w3 b1 b2 b3 e1 e2 e3 = more a (w1 ++ w2) w3 b2 b3 (more a w1 w2 b1 b2 e1 e2) e3

pub five : (a w1 w2 w3 w4 w5 b1 b2 b3 b4 b5 : List ℕ) → b1 ≡ a ++ w1 → b2 ≡ b1 ++ w2 → b3 ≡ b2 ++ w3 → b4 ≡ b3 ++ w4 → b5 ≡ b4 ++ w5
    → b5 ≡ a ++ ((((w1 ++ w2) ++ w3) ++ w4) ++ w5)
five a w1 w2 w3 w4 w5 b1 b2 b3 b4 b5 e1 e2 e3 e4 e5 =
    more a (((w1 ++ w2) ++ w3) ++ w4) w5 b4 b5 (more a ((w1 ++ w2) ++ w3) w4 b3 b4 (three a w1 w2 w3 b1 b2 b3 e1 e2 e3) e4) e5
