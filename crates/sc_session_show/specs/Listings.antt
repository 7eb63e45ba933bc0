-- Yardstick: to be compared with what it restates (docs/TRUST.md).
-- The modules and the functions that they define, as they are listed.
use Rattle.std.specs.Prelude.{ℕ, ◌+◌, ◌++◌, Bool, true, false, if◌then◌else◌, List, [], ◌∷◌, Option, Some, None, codes, decimal}
use Rattle.std.specs.List.{list_any}
use Rattle.indexmap.specs.IndexSet.{insert_key}
use Rattle.sc_base.specs.declared.key.Key.{Key}
use Rattle.sc_core.specs.declared.module.Fun.{Fun}
use Rattle.sc_meaning.specs.Versions.{Text}
use Rattle.sc_session_texts.specs.Words.{key_text}
use Rattle.sc_session_show.specs.Lines.{answer_line}
use Rattle.sc_core_held.specs.Numbers.{key_eq}

-- a module, and the word for its form
abbrev pub module_line : List ℕ → List ℕ → List ℕ
module_line name form = answer_line (codes "module " ++ name ++ codes " " ++ form)

-- the key of a function that a module defines
abbrev pub home_if : Bool → List ℕ → Option (List ℕ)
home_if true home = None
home_if false home = Some home

abbrev pub defined_key : List ℕ → Fun → Key
defined_key home f = record { «module» = home_if f.external home; name = f.name }

-- the functions that a module defines, behind some keys, each once
abbrev pub with_functions : List ℕ → List Key → List Fun → List Key
with_functions home keys [] = keys
with_functions home keys (f ∷ funs) = with_functions home (insert_key key_eq keys (defined_key home f)) funs

abbrev pub with_texts : List Key → List Text → List Key
with_texts keys [] = keys
with_texts keys (t ∷ texts) = with_texts (with_functions t.core.name keys t.core.funs) texts

abbrev pub defined_keys : List Text → List Key
defined_keys texts = with_texts [] texts

abbrev pub fun_line : List Key → ℕ → Key → List ℕ
fun_line defined n key = if list_any (key_eq key) defined then answer_line (codes "fun " ++ decimal n ++ codes " " ++ key_text key) else []

-- those of the keys, which are numbered from n on, that are defined
abbrev pub lines_from : List Key → ℕ → List Key → List ℕ
lines_from defined n [] = []
lines_from defined n (key ∷ keys) = fun_line defined n key ++ lines_from defined (n + 1) keys

-- the library has 39 functions
abbrev pub fun_lines : List Text → List Key → List ℕ
fun_lines texts numbers = lines_from (defined_keys texts) 39 numbers
