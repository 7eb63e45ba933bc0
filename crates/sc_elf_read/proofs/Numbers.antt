-- The number that the first bytes of a list make.
use Rattle.std.proofs.Common.{◌≡◌, ◌*◌, ◌+◌, ℕ, List, [], ◌∷◌, take, arith, refl, get_or}
use Rattle.sc_object.specs.Reading.{value_of}

pub first_two : (r : List ℕ) → value_of (take 2 r) ≡ get_or r 0 0 + 256 * get_or r 1 0
first_two [] = refl
first_two (a ∷ []) = omega arith
first_two (a ∷ b ∷ r) = omega arith

pub first_four : (r : List ℕ) → value_of (take 4 r) ≡ (get_or r 0 0 + 256 * get_or r 1 0) + 65536 * (get_or r 2 0 + 256 * get_or r 3 0)
first_four [] = refl
first_four (a ∷ []) = omega arith
first_four (a ∷ b ∷ []) = omega arith
first_four (a ∷ b ∷ c ∷ []) = omega arith
first_four (a ∷ b ∷ c ∷ d ∷ r) = omega arith

pub half_is : (n : ℕ) (r : List ℕ) (a b : ℕ) → n ≡ a + 256 * b → a ≡ get_or r 0 0 → b ≡ get_or r 1 0 → n ≡ value_of (take 2 r)
half_is n r a b e f g = omega (arith, first_two r)

pub word_is : (n low high : ℕ) (r : List ℕ) (a b c d : ℕ) → n ≡ low + 65536 * high → low ≡ a + 256 * b → high ≡ c + 256 * d
    → a ≡ get_or r 0 0 → b ≡ get_or r 1 0 → c ≡ get_or r 2 0 → d ≡ get_or r 3 0 → n ≡ value_of (take 4 r)
word_is n low high r a b c d e f g h i j k = omega (arith, first_four r)
