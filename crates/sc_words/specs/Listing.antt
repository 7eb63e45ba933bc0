-- Inside: plumbing, a representation, an invariant or a promise beside the claim (docs/TRUST.md).
-- Options are read from the front.
use Rattle.std.specs.Prelude.{ℕ, ◌&&◌, List, [], ◌∷◌, if◌then◌else◌, Option, Some, None}
use Rattle.sc_words.specs.Options.{fits, is_flag, is_value}

-- what is behind the value that comes first, where that is right
abbrev pub behind_value : List ℕ → List (List ℕ) → Option (List (List ℕ))
behind_value name [] = None
behind_value name (value ∷ words) = if is_value value && fits name value then Some words else None

-- the words behind an option of this name and its value, where it has one
abbrev pub behind : List ℕ → List (List ℕ) → Option (List (List ℕ))
behind name words = if is_flag name then Some words else behind_value name words
