-- Inside: plumbing, a representation, an invariant or a promise beside the claim (docs/TRUST.md).
-- Arguments that are read in part.
use Rattle.std.specs.Prelude.{◌≡◌, ◌≤◌, ℕ, ⊤, List, [], ◌∷◌, length, drop}
use Rattle.sc_macro.specs.declared.marked.Marked.{Marked}
use Rattle.sc_macro.specs.declared.reading.Reading.TheInside.{Inside}

-- something was read of the given list only where nothing is left of what was made
abbrev pub IsOrdered : List Marked → ℕ → Type 0
IsOrdered [] count = ⊤
IsOrdered (m ∷ ms) count = count ≡ 0

-- what is left of the given list stands behind what was read of it
pub record IsSplit (r : Inside) : Type 0 where
  pub left : r.left.now ≡ drop r.count r.given.now
  pub within : r.count ≤ length r.given.now
  pub ordered : IsOrdered r.made r.count
