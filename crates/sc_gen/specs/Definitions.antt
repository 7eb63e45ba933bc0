-- Yardstick: to be compared with what it restates (docs/TRUST.md).
-- What each section of an object defines, and which of its bytes wait for the value of a target (RISC-V psABI).
use Rattle.std.specs.Prelude.{ℕ, ◌+◌, ◌*◌, if◌then◌else◌, List, [], ◌∷◌, ◌++◌, length, map, Option, Some, None, ℤ, pos}
use Rattle.std.specs.Int.{w32, cast_signed}
use Rattle.std.specs.Str.{bytes_eq}
use Rattle.sc_base.specs.declared.key.Key.{Key}
use Rattle.sc_program.specs.declared.storage.StaticId.{StaticId}
use Rattle.sc_program.specs.declared.storage.StaticId.TheVariants as id
use Rattle.sc_core.specs.declared.module.Core.{Core}
use Rattle.sc_core.specs.declared.module.Fun.{Fun}
use Rattle.sc_core.specs.declared.module.Init.{Init}
use Rattle.sc_core.specs.declared.module.Init.TheVariants as init
use Rattle.sc_core.specs.declared.module.StaticObj.{StaticObj}
use Rattle.sc_object.specs.declared.object.SectionKind.{SectionKind}
use Rattle.sc_object.specs.declared.object.SectionKind.TheVariants.{Text, Data, Rodata, Bss}
use Rattle.sc_gen_code.specs.declared.symbolic.Target.{Target}
use Rattle.sc_gen_code.specs.declared.symbolic.Target.TheVariants as target
use Rattle.sc_gen_code.specs.Code.{Code}
use Rattle.sc_gen_expr.specs.Words.{relocation, fitted}
use Rattle.sc_gen.specs.declared.definitions.Fixup.{Fixup}
use Rattle.sc_gen.specs.declared.definitions.Definition.{Definition}
use Rattle.sc_gen.specs.Sections.{init_size, kind_of, object_size}

-- a function of external linkage is named alone, one of internal linkage with its module
abbrev pub key_of : List ℕ → Fun → Key
key_of home f = record { «module» = if f.external then None else Some home; name = f.name }

abbrev pub fixup : ℕ → ℕ → Target → ℤ → Fixup
fixup at kind target addend = record { at = fitted at; kind = kind; target = target; addend = addend }

abbrev pub word_fixups : ℕ → Option (ℕ × Target) → List Fixup
word_fixups at None = []
word_fixups at (Some r) = fixup at r.0 r.1 (pos 0) ∷ []

-- the words of a text that wait, from word n on
abbrev pub text_fixups : ℕ → Code → List Fixup
text_fixups n [] = []
text_fixups n (x ∷ xs) = word_fixups (4 * n) (relocation x) ++ text_fixups (n + 1) xs

-- the place of the first literal, from number n on, that has these bytes
abbrev pub literal_from : ℕ → List (List ℕ) → List ℕ → Option ℕ
literal_from n [] bytes = None
literal_from n (text ∷ texts) bytes = if bytes_eq text bytes then Some n else literal_from (n + 1) texts bytes

abbrev pub or_else : ℕ → Option ℕ → ℕ
or_else n None = n
or_else n (Some k) = k

-- the number of a literal by its bytes, or that of all literals where it is none
abbrev pub literal_number : List (List ℕ) → List ℕ → ℕ
literal_number literals bytes = fitted (or_else (length literals) (literal_from 0 literals bytes))

-- what an address constant names, by the module's literals
abbrev pub target_of : List (List ℕ) → StaticId → Target
target_of literals (id.Named key) = target.Named key
target_of literals (id.Literal home bytes) = target.Literal (literal_number literals bytes)

-- R_RISCV_32 at an address of the contents
abbrev pub init_fixups : List (List ℕ) → ℕ → Init → List Fixup
init_fixups literals at (init.Byte b) = []
init_fixups literals at (init.Zeros n) = []
init_fixups literals at (init.Address what n) = fixup at 1 (target_of literals what) (cast_signed w32 n) ∷ []

-- contents from an offset on
abbrev pub data_fixups : List (List ℕ) → ℕ → List Init → List Fixup
data_fixups literals at [] = []
data_fixups literals at (x ∷ xs) = init_fixups literals at x ++ data_fixups literals (fitted (at + init_size x)) xs

abbrev pub fixups_in : SectionKind → List (List ℕ) → List Init → List Fixup
fixups_in Text literals xs = data_fixups literals 0 xs
fixups_in Data literals xs = data_fixups literals 0 xs
fixups_in Rodata literals xs = data_fixups literals 0 xs
fixups_in Bss literals xs = []

-- FUNC is 2, OBJECT is 1
abbrev pub text_definition : Key → Code → Definition
text_definition key code = record { target = target.Named key; kind = 2; size = fitted (4 * length code); fixups = text_fixups 0 code }

-- by the code that a compiler gives to each function
abbrev pub function_definition : (Fun → Code) → List ℕ → Fun → Definition
function_definition code home f = text_definition (key_of home f) (code f)

abbrev pub object_definition : List (List ℕ) → StaticObj → Definition
object_definition literals x = record { target = target.Named x.key; kind = 1; size = object_size x; fixups = fixups_in (kind_of x) literals x.init }

abbrev pub literal_definition : ℕ → List ℕ → Definition
literal_definition n bytes = record { target = target.Literal n; kind = 1; size = fitted (length bytes); fixups = [] }

-- literals from number n on
abbrev pub literal_definitions : ℕ → List (List ℕ) → List Definition
literal_definitions n [] = []
literal_definitions n (bytes ∷ more) = literal_definition (fitted n) bytes ∷ literal_definitions (n + 1) more

abbrev pub data_definitions : Core → List Definition
data_definitions core = map (object_definition core.literals) core.objects ++ literal_definitions 0 core.literals

-- one for each section, in their order
abbrev pub definitions : (Fun → Code) → Core → List Definition
definitions code core =
    (map (function_definition code core.name) core.funs ++ map (object_definition core.literals) core.objects) ++ literal_definitions 0 core.literals
