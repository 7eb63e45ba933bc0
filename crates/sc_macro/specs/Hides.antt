-- Yardstick: to be compared with what it restates (docs/TRUST.md).
-- Sets of macros' numbers, as lists. A macro's number is its place in the table.
use Rattle.std.specs.Prelude.{ℕ, ◌==◌, Bool, not, List, ◌++◌}
use Rattle.std.specs.List.{filter, list_any}

abbrev pub among : ℕ → List ℕ → Bool
among n ns = list_any (λ m. m == n) ns

abbrev pub united : List ℕ → List ℕ → List ℕ
united xs ys = filter (λ x. not (among x ys)) xs ++ ys

abbrev pub common : List ℕ → List ℕ → List ℕ
common xs ys = filter (λ x. among x ys) xs
