-- Look-ups of names by their places.
use Rattle.std.proofs.Common.{◌≡◌, ℕ, ◌+◌, Bool, List, [], ◌∷◌, map, length, cond, Option, Some, None, refl, ◌∙◌, ap}
use Rattle.std.specs.Prelude.{not, nat_lt, position, slice_get, option_and_then}
use Rattle.std.specs.List.{prefix_len}
use Rattle.std.proofs.lemmas.List.{length-map}

prefix-map : {X Y : Type 0} (p : Y → Bool) (h : X → Y) (xs : List X) → prefix_len p (map h xs) ≡ prefix_len (λ x. p (h x)) xs
prefix-map p h [] = refl
prefix-map p h (x ∷ xs) = ap (λ (n : ℕ). cond (p (h x)) (1 + n) 0) (prefix-map p h xs)

position-map : {X Y : Type 0} (p : Y → Bool) (h : X → Y) (xs : List X) → position p (map h xs) ≡ position (λ x. p (h x)) xs
position-map p h xs =
    ap (λ (n : ℕ). cond (nat_lt n (length (map h xs))) (Some n) None) (prefix-map (λ y. not (p y)) h xs)
    ∙ ap (λ (m : ℕ). cond (nat_lt (prefix_len (λ x. not (p (h x))) xs) m) (Some (prefix_len (λ x. not (p (h x))) xs)) None) (length-map xs h)

-- what stands at the place of a key among the keys
pub found : {X Y : Type 0} (p : Y → Bool) (h : X → Y) (xs : List X) (keys : List Y) (place : Option ℕ) → keys ≡ map h xs → place ≡ position p keys
    → option_and_then (slice_get xs) place ≡ option_and_then (slice_get xs) (position (λ x. p (h x)) xs)
found p h xs keys place kept e = ap (option_and_then (slice_get xs)) (e ∙ ap (position p) kept ∙ position-map p h xs)
