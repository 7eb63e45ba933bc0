-- Yardstick: to be compared with what it restates (docs/TRUST.md).
-- Where modules have a name, and of which types it is, as they are shown.
use Rattle.std.specs.Prelude.{ℕ, ◌++◌, Bool, true, false, if◌then◌else◌, List, [], ◌∷◌, length, Option, Some, None, option_map, codes, decimal}
use Rattle.std.specs.Str.{bytes_eq}
use Rattle.sc_core.specs.declared.module.Core.{Core}
use Rattle.sc_core_names.specs.declared.table.DeclaredName.{DeclaredName}
use Rattle.sc_core_names.specs.Scopes.{entity_in}
use Rattle.sc_types.specs.declared.ctype.CType.{CType}
use Rattle.sc_xref.specs.declared.walk.Place.{Place}
use Rattle.sc_xref.specs.declared.walk.PlaceKind.{PlaceKind}
use Rattle.sc_xref.specs.declared.walk.PlaceKind.TheVariants.{Def, Decl, Call, Use}
use Rattle.sc_session_show.specs.declared.references.Found.{Found}
use Rattle.sc_session_show.specs.Lines.{answer_line}
use Rattle.sc_session_show.specs.Types.{type_text}
use Rattle.sc_session_show.specs.Visible.{Linked, linked_if}

-- ---- places

abbrev pub found_if : List ℕ → List ℕ → Place → List Found
found_if name home p = if bytes_eq p.name name then record { kind = p.kind; home = home; line = p.line } ∷ [] else []

-- the places of a name among those of a module, in their order
abbrev pub found_in : List ℕ → List ℕ → List Place → List Found
found_in name home [] = []
found_in name home (p ∷ ps) = found_if name home p ++ found_in name home ps

abbrev pub kind_text : PlaceKind → List ℕ
kind_text Def = codes "def"
kind_text Decl = codes "decl"
kind_text Call = codes "call"
kind_text Use = codes "use"

-- `KIND M:LINE`
abbrev pub place_line : Found → List ℕ
place_line f = answer_line (kind_text f.kind ++ codes " " ++ f.home ++ codes ":" ++ decimal f.line)

abbrev pub place_lines : List Found → List ℕ
place_lines [] = []
place_lines (f ∷ found) = place_line f ++ place_lines found

abbrev pub count_line : ℕ → List ℕ
count_line n = answer_line (decimal n ++ codes " places")

abbrev pub places_text : List Found → List ℕ
places_text found = place_lines found ++ count_line (length found)

-- ---- types

abbrev pub type_of : Linked → CType
type_of l = l.of

-- the type of the function or object that the file declares under a name: the composite of all its declarations
abbrev pub file_type : Core → List DeclaredName → List ℕ → Option CType
file_type core file name = option_map type_of (linked_if core name (entity_in file name))

abbrev pub is_there : Option CType → Bool
is_there None = false
is_there (Some t) = true

abbrev pub is_declared_in : Core → List DeclaredName → List ℕ → Bool
is_declared_in core file name = is_there (file_type core file name)

-- `M TYPE`
abbrev pub typed_line : Core → CType → List ℕ
typed_line core t = answer_line (core.name ++ codes " " ++ type_text core.structs t)

abbrev pub line_if : Core → Option CType → List ℕ
line_if core None = []
line_if core (Some t) = typed_line core t

abbrev pub type_line : Core → List DeclaredName → List ℕ → List ℕ
type_line core file name = line_if core (file_type core file name)
