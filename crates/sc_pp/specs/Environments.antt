-- Yardstick: to be compared with what it restates (docs/TRUST.md).
-- What names stand for in a unit: the table of macros, and the names of its files by their numbers.
use Rattle.std.specs.Prelude.{◌≡◌, ℕ, suc, List, [], ◌∷◌, ◌++◌, Bool, is_some, get_or, Result}
use Rattle.indexmap.specs.Layout.{hash_map}
use Rattle.std.specs.declared.hash.BuildHasherDefault.{BuildHasherDefault}
use Rattle.std.specs.declared.hash.FoldHasher.{FoldHasher}
use Rattle.sc_base.specs.declared.refusal.Refusal.{Refusal}
use Rattle.sc_lex.specs.declared.token.Token.{Token}
use Rattle.sc_macro.specs.declared.macros.Macros.{Macros}
use Rattle.sc_macro.specs.Table.{Table, Files, meaning, files, file_name}
use Rattle.sc_macro.specs.Expansion.{expansion}

pub record Env : Type 0 where
  pub table : Table
  pub names : List (List ℕ)

abbrev pub numbered : ℕ → List (List ℕ) → Files
numbered n [] = []
numbered n (name ∷ names) = (n, name) ∷ numbered (suc n) names

abbrev pub hasher : BuildHasherDefault FoldHasher
hasher = record { initial = record { state = 0 } }

-- macros with this table and these names of files
abbrev pub macros_of : Env → Macros
macros_of env = record { entries = hash_map env.table hasher 0; files = hash_map (numbered 0 env.names) hasher 0 }

-- The list after all replacements, and how many more may be made of so many; 200 arguments may stand inside each other.
unfoldable pub expanded_in : Env → ℕ → List Token → Result (List Token × ℕ) Refusal
expanded_in env left ts = expansion 201 (macros_of env) left ts

-- one file more
abbrev pub with_file : Env → List ℕ → Env
with_file env name = record { table = env.table; names = env.names ++ name ∷ [] }

abbrev pub with_table : Env → Table → Env
with_table env table = record { table = table; names = env.names }

abbrev pub is_defined : Env → List ℕ → Bool
is_defined env name = is_some (meaning env.table name)

-- the macros give each file's tokens its name
abbrev pub IsNamed : Macros → List (List ℕ) → Type 0
IsNamed m names = (f : ℕ) → file_name (files m) f ≡ get_or names f []
