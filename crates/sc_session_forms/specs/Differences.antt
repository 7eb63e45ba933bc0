-- Yardstick: to be compared with what it restates (docs/TRUST.md).
-- Where two files differ.
use Rattle.std.specs.Prelude.{ℕ, ◌+◌, ◌==◌, if◌then◌else◌, List, [], ◌∷◌, Option, Some, None}

-- the first place, counted from a number on, at which they differ or the shorter one ends
abbrev pub difference_from : ℕ → List ℕ → List ℕ → Option ℕ
difference_from n [] [] = None
difference_from n [] (y ∷ ys) = Some n
difference_from n (x ∷ xs) [] = Some n
difference_from n (x ∷ xs) (y ∷ ys) = if x == y then difference_from (n + 1) xs ys else Some n

abbrev pub difference : List ℕ → List ℕ → Option ℕ
difference xs ys = difference_from 0 xs ys
