-- Inside: plumbing, a representation, an invariant or a promise beside the claim (docs/TRUST.md).
-- How the places of names are kept beside a name space.
use Rattle.std.specs.Prelude.{◌≡◌, ℕ, if◌then◌else◌, List, [], ◌∷◌, length, Option, Some, None}
use Rattle.std.specs.Str.{bytes_eq}

-- the place of the innermost entry of a name, counted from the outermost
abbrev pub place_of : {T : Type 0} → List ℕ → List (List ℕ × T) → Option ℕ
place_of name [] = None
place_of name (e ∷ outer) = if bytes_eq e.0 name then Some (length outer) else place_of name outer

-- beside each entry, the place of the entry that it hides
abbrev pub IsChain : {T : Type 0} → List (List ℕ × T) → List (Option ℕ) → Type 0
IsChain [] hidden = hidden ≡ []
IsChain (e ∷ outer) [] = ⊥
IsChain (e ∷ outer) (h ∷ hidden) = (h ≡ place_of e.0 outer) × IsChain outer hidden

pub record IsKept {T : Type 0} (rows : List (List ℕ × T)) (hidden : List (Option ℕ)) (found : List ℕ → Option ℕ) : Type 0 where
  pub chain : IsChain rows hidden
  pub places : (name : List ℕ) → found name ≡ place_of name rows
