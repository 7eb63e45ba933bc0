-- Yardstick: to be compared with what it restates (docs/TRUST.md).
-- The table of macros, and the names of the files.
use Rattle.std.specs.Prelude.{ℕ, ◌||◌, Bool, false, nat_eq, if◌then◌else◌, List, [], ◌∷◌, Option, Some, None, slice_get, map, codes}
use Rattle.std.specs.List.{position}
use Rattle.std.specs.Option.{unwrap_or}
use Rattle.std.specs.Str.{bytes_eq}
use Rattle.std.specs.Map.{lookup}
use Rattle.indexmap.specs.IndexMap.{swap_remove_entry}
use Rattle.sc_lex.specs.declared.token.TokenKind.TheVariants as token
use Rattle.sc_lex.specs.declared.token.Token.{Token}
use Rattle.sc_macro.specs.declared.macros.MacroKind.{MacroKind}
use Rattle.sc_macro.specs.declared.macros.MacroKind.TheVariants as kind
use Rattle.sc_macro.specs.declared.macros.Part.TheVariants as part
use Rattle.sc_macro.specs.declared.macros.Macro.{Macro}
use Rattle.sc_macro.specs.declared.macros.Macros.{Macros}

abbrev pub Table : Type 0
Table = List (List ℕ × Macro)

abbrev pub Files : Type 0
Files = List (ℕ × List ℕ)

-- the macros of a value, as names with their definitions
abbrev pub table : Macros → Table
table m = m.entries.entries

abbrev pub files : Macros → Files
files m = m.files.entries

-- the definition of a name
abbrev pub meaning : Table → List ℕ → Option Macro
meaning entries name = lookup (bytes_eq name) entries

-- what `__FILE__` gives for a file
abbrev pub file_name : Files → ℕ → List ℕ
file_name entries file = unwrap_or (lookup (nat_eq file) entries) []

abbrev pub numbered : ℕ → Option (List ℕ × Macro) → Option (ℕ × Macro)
numbered i None = None
numbered i (Some e) = Some (i, e.1)

abbrev pub at_number : Table → Option ℕ → Option (ℕ × Macro)
at_number entries None = None
at_number entries (Some i) = numbered i (slice_get entries i)

-- the number and the definition of a name
abbrev pub found : Table → List ℕ → Option (ℕ × Macro)
found entries name = at_number entries (position (bytes_eq name) (map (λ e. e.0) entries))

-- the names that may be neither defined nor undefined (ANSI 3.8.8)
abbrev pub is_fixed : List ℕ → Bool
is_fixed name = bytes_eq name (codes "__LINE__") || bytes_eq name (codes "__FILE__") || bytes_eq name (codes "__STDC__") || bytes_eq name (codes "defined")

-- the table without a name
abbrev pub undefined : Table → List ℕ → Table
undefined entries name = if is_fixed name then entries else swap_remove_entry (bytes_eq name) entries

-- the meaning of a name in a table without another name
abbrev pub meaning_without : Table → List ℕ → List ℕ → Option Macro
meaning_without entries gone name = if is_fixed gone then meaning entries name else if bytes_eq gone name then None else meaning entries name

-- a definition without a replacement list
abbrev pub predefined : MacroKind → Macro
predefined kind = record { kind = kind; parameters = []; replacement = []; chains = []; wanted = [] }

abbrev pub one : Token
one = record { kind = token.Number; text = codes "1"; file = 0; line = 0; space = false }

-- `__STDC__` is 1
abbrev pub standard : Macro
standard = record { kind = kind.Object; parameters = []; replacement = one ∷ []; chains = (part.Word one ∷ []) ∷ []; wanted = [] }

-- the table before any definition
abbrev pub start : Table
start = (codes "__LINE__", predefined kind.Line) ∷ (codes "__FILE__", predefined kind.File) ∷ (codes "__STDC__", standard) ∷ []
