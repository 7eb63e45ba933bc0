-- Yardstick: to be compared with what it restates (docs/TRUST.md).
-- What it is for a module to be translated, and for its text to be refused (ANSI 2.1.1.2).
use Rattle.std.specs.Prelude.{◌≡◌, ℕ, true, List, Contains, Option, Some, None, Result, Ok, Err, ⊤}
use Rattle.sc_base.specs.declared.refusal.Refusal.{Refusal}
use Rattle.sc_base.specs.declared.refusal.X.{X}
use Rattle.sc_base.specs.declared.refusal.Fault.{Fault}
use Rattle.sc_base.specs.declared.refusal.Fault.TheVariants as base
use Rattle.sc_check.specs.Outcomes.{IsRefused}
use Rattle.sc_check.specs.Units.{unit_of}
use Rattle.sc_core.specs.declared.module.Core.{Core}
use Rattle.sc_core_formed.specs.Modules.{formed}
use Rattle.sc_eval.specs.Texts.{IsUnit}
use Rattle.sc_gen.specs.Limits.{IsObject, plain_code}
use Rattle.sc_opt.specs.Fast.{fast_code}
use Rattle.sc_lex.specs.declared.token.Token.{Token}
use Rattle.sc_outside.specs.Causes.{Rose}
use Rattle.sc_outside.specs.Stored.{FileMap}
use Rattle.sc_pp.specs.declared.unit.PpFault.{PpFault}
use Rattle.sc_pp.specs.declared.unit.PpFault.TheVariants as pp
use Rattle.sc_pp.specs.Preprocessing.{preprocessed}
use Rattle.sc_pp.specs.Answers.{Known}
use Rattle.sc_pp.specs.Asked.{asked_in}
use Rattle.sc_core_names.specs.Scopes.{scopes_of}
use Rattle.sc_parse_tokens.specs.Symbols.{symbols}
use Rattle.sc_tree.specs.declared.statement.External.{External}
use Rattle.sc_parse_laws.specs.Causes.{Cause}
use Rattle.sc_xref.specs.Walks.{places_of}
use Rattle.sc_build.specs.Compiled.{Exceeds}
use Rattle.sc_build.specs.declared.building.Built.{Built}
use Rattle.sc_build.specs.declared.building.Names.{Names}
use Rattle.sc_build.specs.declared.building.BuildFault.{BuildFault}
use Rattle.sc_build.specs.declared.building.BuildFault.TheVariants as fault

-- what preprocessing answers to a file, where the files are known
abbrev pub Reads : Option FileMap → List ℕ → Result (List Token) PpFault → Type 0
Reads held file outcome = Known held (λ map. preprocessed map file ≡ outcome)

-- there is no such file, or it is longer than a file may be
abbrev pub IsMissing : Option FileMap → List ℕ → Type 0
IsMissing held file = Reads held file (Err pp.Missing)

abbrev pub IsTooLong : Option FileMap → List ℕ → Type 0
IsTooLong held file = Reads held file (Err pp.TooLong)

-- preprocessing asks for this file
abbrev pub Asks : Option FileMap → List ℕ → List ℕ → Type 0
Asks held file asked = Known held (λ map. Contains (asked_in map file) asked)

-- what is kept beside the module of these tokens, which are this unit
abbrev pub names_of : List Token → List External → Names
names_of tokens items = record { scopes = scopes_of items; places = places_of items; kept = record { tokens = tokens } }

-- The module in a file: its tokens, which are kept and are a unit, which the rules of types make this module, whose scopes and places
-- are these, and which has these objects.
pub record Builds (held : Option FileMap) (file name : List ℕ) (built : Built) : Type 0 where
  pub items : List External
  pub reads : Reads held file (Ok built.kept.tokens)
  pub parses : IsUnit built.kept.tokens items
  pub checks : unit_of name items ≡ Ok built.core
  pub named : built.core.name ≡ name
  pub formed : formed built.core ≡ true
  pub scoped : built.scopes ≡ scopes_of items
  pub listed : built.places ≡ places_of items
  pub compiled : IsObject plain_code built.core built.object
  pub fast : IsObject fast_code built.core built.fast

-- Where the first refusal of a file comes from: preprocessing; the grammar, where preprocessing refuses nothing; the rules
-- of types, where the grammar refuses nothing; the limits of objects, where they refuse nothing.
pub data Refuses (held : Option FileMap) (file name : List ℕ) : Refusal → Type 0 where
  in_preprocessing : (r : Refusal) → Reads held file (Err (pp.Refused r)) → Refuses held file name r
  in_grammar : (tokens : List Token) (kind : X) (line : ℕ) → Reads held file (Ok tokens) → Cause (symbols tokens) kind line → Refuses held file name (record { kind = kind; file = file; line = line })
  in_types : (tokens : List Token) (items : List External) (kind : X) (line : ℕ) → Reads held file (Ok tokens) → IsUnit tokens items → IsRefused (unit_of name items) kind line → Refuses held file name (record { kind = kind; file = file; line = line })
  in_code : (tokens : List Token) (items : List External) (core : Core) (r : Refusal) → Reads held file (Ok tokens) → IsUnit tokens items → unit_of name items ≡ Ok core → Exceeds file core r → Refuses held file name r

-- what the code answers
abbrev pub Answers : Option FileMap → ℕ → ℕ → List ℕ → List ℕ → Result Built BuildFault → Type 0
Answers held before now file name (Ok built) = Builds held file name built
Answers held before now file name (Err (fault.Refused r)) = Refuses held file name r
Answers held before now file name (Err fault.Missing) = IsMissing held file
Answers held before now file name (Err fault.TooLong) = IsTooLong held file
Answers held before now file name (Err (fault.File asked)) = Asks held file asked × Rose before now
Answers held before now file name (Err fault.NoMemory) = ⊤

-- the same behind preprocessing
abbrev pub Checks : List Token → List ℕ → List ℕ → Result Built BuildFault → Type 0
Checks tokens file name result = (held : Option FileMap) (before now : ℕ) → Reads held file (Ok tokens) → Answers held before now file name result

-- what preprocessing fails with
abbrev pub of_files : PpFault → BuildFault
of_files (pp.Refused r) = fault.Refused r
of_files pp.Missing = fault.Missing
of_files pp.TooLong = fault.TooLong
of_files (pp.File name) = fault.File name
of_files pp.NoMemory = fault.NoMemory

-- a refusal of the grammar or of the rules of types stands in the module's own file
abbrev pub InFile : List ℕ → Fault → BuildFault → Type 0
InFile file (base.Refused r) (fault.Refused q) = q ≡ record { kind = r.kind; file = file; line = r.line }
InFile file (base.Refused r) fault.NoMemory = Unit {0}
InFile file base.NoMemory fault.NoMemory = Unit {0}
InFile file _ _ = ⊥
