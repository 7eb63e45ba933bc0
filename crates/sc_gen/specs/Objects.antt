-- Yardstick: to be compared with what it restates (docs/TRUST.md).
-- The object of a module: its sections, the symbols that it names, its relocations, and the frames of its functions (ELF gABI, RISC-V psABI).
use Rattle.std.specs.Prelude.{ℕ, ◌+◌, Bool, true, false, List, [], ◌∷◌, ◌++◌, map, fold, flat_map, length, position, if◌then◌else◌, Option, Some, None, is_none}
use Rattle.sc_types.specs.Compatibility.{same_bool}
use Rattle.sc_check_operand.specs.Types.{is_function}
use Rattle.sc_core.specs.declared.module.Core.{Core}
use Rattle.sc_core.specs.declared.module.Declared.{Declared}
use Rattle.sc_core.specs.declared.module.Fun.{Fun}
use Rattle.sc_object.specs.declared.object.Symbol.{Symbol}
use Rattle.sc_object.specs.declared.object.Reloc.{Reloc}
use Rattle.sc_object.specs.declared.object.FrameTable.{FrameTable}
use Rattle.sc_object.specs.declared.object.Object.{Object}
use Rattle.sc_gen_code.specs.Code.{Code}
use Rattle.sc_gen_code.specs.declared.symbolic.Target.{Target}
use Rattle.sc_gen_code.specs.declared.symbolic.Target.TheVariants as target
use Rattle.sc_gen_expr.specs.Words.{target_eq, mention, fitted}
use Rattle.sc_gen.specs.declared.definitions.Fixup.{Fixup}
use Rattle.sc_gen.specs.declared.definitions.Definition.{Definition}
use Rattle.sc_gen.specs.declared.symbols.Home.{Home}
use Rattle.sc_object.specs.declared.object.Section.{Section}
use Rattle.sc_gen.specs.Blocks.{frame_table}
use Rattle.sc_gen.specs.Sections.{sections, literal_name}
use Rattle.sc_gen.specs.Definitions.{key_of, or_else, definitions}

-- whether other modules see a target
abbrev pub is_global : Target → Bool
is_global (target.Named key) = is_none key.«module»
is_global (target.Literal n) = false

-- the name under which a target stands in the table of symbols
abbrev pub target_name : Target → List ℕ
target_name (target.Named key) = key.name
target_name (target.Literal n) = literal_name n

-- what a section mentions: what it defines, then what it waits for
abbrev pub mentions : Definition → List Target
mentions d = d.target ∷ map (λ x. x.target) d.fixups

-- the functions that the module declares are mentioned behind all sections
abbrev pub declared_target : Declared → List Target
declared_target d = if is_function d.of then target.Named d.key ∷ [] else []

abbrev pub all_mentions : List Definition → List Declared → List Target
all_mentions ds declared = flat_map mentions ds ++ flat_map declared_target declared

-- a target is named once, where it is of this binding
abbrev pub named : Bool → List Target → Target → List Target
named global known t = if same_bool (is_global t) global then mention known t else known

abbrev pub named_all : Bool → List Target → List Target → List Target
named_all global known ts = fold (named global) known ts

-- the local ones and then the global ones, each in the order in which they are mentioned first
abbrev pub targets_of : List Definition → List Declared → List Target
targets_of ds declared = named_all true (named_all false [] (all_mentions ds declared)) (all_mentions ds declared)

abbrev pub targets : (Fun → Code) → Core → List Target
targets code core = targets_of (definitions code core) core.declared

abbrev pub home : ℕ → Definition → Home
home n d = record { section = fitted n; kind = d.kind; size = d.size }

-- the first section, from number n on, that defines a target
abbrev pub home_from : ℕ → List Definition → Target → Option Home
home_from n [] t = None
home_from n (d ∷ ds) t = if target_eq d.target t then Some (home n d) else home_from (n + 1) ds t

-- a symbol that no section defines is of no type and size
abbrev pub symbol_by : Target → Option Home → Symbol
symbol_by t None = record { name = target_name t; section = None; global = is_global t; kind = 0; size = 0 }
symbol_by t (Some h) = record { name = target_name t; section = Some h.section; global = is_global t; kind = h.kind; size = h.size }

abbrev pub symbol_of : List Definition → Target → Symbol
symbol_of ds t = symbol_by t (home_from 0 ds t)

abbrev pub symbol_number : List Target → Target → ℕ
symbol_number known t = fitted (or_else (length known) (position (target_eq t) known))

abbrev pub reloc_of : List Target → ℕ → Fixup → Reloc
reloc_of known n x = record { section = fitted n; at = x.at; kind = x.kind; symbol = symbol_number known x.target; addend = x.addend }

-- the relocations of the sections from number n on
abbrev pub relocs_from : List Target → ℕ → List Definition → List Reloc
relocs_from known n [] = []
relocs_from known n (d ∷ ds) = map (reloc_of known n) d.fixups ++ relocs_from known (n + 1) ds

abbrev pub frame_of : List ℕ → List Target → Fun → FrameTable
frame_of name known f = frame_table (symbol_number known (target.Named (key_of name f))) f

-- by its sections and what they define
abbrev pub object_by : Core → List Section → List Definition → Object
object_by core ss ds = record {
  sections = ss;
  symbols = map (symbol_of ds) (targets_of ds core.declared);
  relocs = relocs_from (targets_of ds core.declared) 0 ds;
  frames = map (frame_of core.name (targets_of ds core.declared)) core.funs;
}

-- by the code that a compiler gives to each function
abbrev pub object_of : (Fun → Code) → Core → Object
object_of code core = object_by core (sections code core) (definitions code core)
