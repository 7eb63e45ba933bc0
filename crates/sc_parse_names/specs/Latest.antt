-- Inside: plumbing, a representation, an invariant or a promise beside the claim (docs/TRUST.md).
-- What each name in scope was last declared as, found in one step.
use Rattle.std.specs.Prelude.{◌≡◌, ℕ, Bool, if◌then◌else◌, List, [], ◌∷◌, Option, Some, None}
use Rattle.std.specs.Str.{bytes_eq}
use Rattle.sc_parse_names.specs.Names.{Names, Scope}

-- names of all scopes, the latest first, each with whether a typedef declares it
abbrev pub Rows : Type 0
Rows = List (List ℕ × Bool)

-- what the latest declaration of the name says
abbrev pub latest : List ℕ → Rows → Option Bool
latest name [] = None
latest name (e ∷ outer) = if bytes_eq e.0 name then Some e.1 else latest name outer

-- the names of a scope, in order, behind others
abbrev pub rows_of : Scope → Rows → Rows
rows_of [] outer = outer
rows_of (e ∷ es) outer = rows_of es ((e.name, e.typedef) ∷ outer)

-- the names of all scopes
abbrev pub rows : Names → Rows
rows [] = []
rows (scope ∷ scopes) = rows_of scope (rows scopes)

-- beside each name, what was said of it before
abbrev pub IsChain : Rows → List (Option Bool) → Type 0
IsChain [] hidden = hidden ≡ []
IsChain (e ∷ outer) [] = ⊥
IsChain (e ∷ outer) (h ∷ hidden) = (h ≡ latest e.0 outer) × IsChain outer hidden

pub record IsKept (names : Rows) (hidden : List (Option Bool)) (found : List ℕ → Option Bool) : Type 0 where
  pub chain : IsChain names hidden
  pub latest : (name : List ℕ) → found name ≡ latest name names
