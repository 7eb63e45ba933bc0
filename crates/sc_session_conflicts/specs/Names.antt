-- Inside: plumbing, a representation, an invariant or a promise beside the claim (docs/TRUST.md).
-- The external names that a module declares (ANSI 3.1.2.2).
use Rattle.std.specs.Prelude.{ℕ, if◌then◌else◌, List, [], ◌∷◌}
use Rattle.std.specs.Str.{bytes_eq}
use Rattle.indexmap.specs.IndexSet.{insert_key}
use Rattle.sc_core.specs.declared.module.Declared.{Declared}
use Rattle.sc_session_conflicts.specs.Clashes.{is_internal}

-- an external name stands behind some others, where it is not among them
abbrev pub with_name : List (List ℕ) → Declared → List (List ℕ)
with_name names d = if is_internal d.key.«module» then names else insert_key bytes_eq names d.key.name

abbrev pub with_names : List (List ℕ) → List Declared → List (List ℕ)
with_names names [] = names
with_names names (d ∷ ds) = with_names (with_name names d) ds

abbrev pub external_names : List Declared → List (List ℕ)
external_names declared = with_names [] declared
