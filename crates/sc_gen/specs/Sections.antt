-- Yardstick: to be compared with what it restates (docs/TRUST.md).
-- The sections of a module's object: one for each function, each object of static storage duration and each string literal (ELF gABI).
use Rattle.std.specs.Prelude.{ℕ, ◌+◌, ◌*◌, ◌==◌, Bool, true, false, if◌then◌else◌, List, [], ◌∷◌, ◌++◌, length, flat_map, map, sum_by, replicate, codes, decimal}
use Rattle.std.specs.List.{list_all}
use Rattle.sc_core.specs.declared.module.Core.{Core}
use Rattle.sc_core.specs.declared.module.Fun.{Fun}
use Rattle.sc_core.specs.declared.module.Init.{Init}
use Rattle.sc_core.specs.declared.module.Init.TheVariants as init
use Rattle.sc_core.specs.declared.module.StaticObj.{StaticObj}
use Rattle.sc_object.specs.declared.object.SectionKind.{SectionKind}
use Rattle.sc_object.specs.declared.object.SectionKind.TheVariants.{Text, Data, Rodata, Bss}
use Rattle.sc_object.specs.declared.object.Section.{Section}
use Rattle.sc_object.specs.Words.{word}
use Rattle.sc_gen_code.specs.Code.{Code}
use Rattle.sc_gen_expr.specs.Words.{words, fitted}

-- words, each with its lowest byte first
abbrev pub text_bytes : Code → List ℕ
text_bytes code = flat_map word (words code)

abbrev pub text_section : List ℕ → Code → Section
text_section name code = record { name = name; kind = Text; bytes = text_bytes code; size = fitted (4 * length code) }

-- an address is zero until it is filled in
abbrev pub init_bytes : Init → List ℕ
init_bytes (init.Byte b) = b ∷ []
init_bytes (init.Zeros n) = replicate n 0
init_bytes (init.Address what n) = replicate 4 0

abbrev pub init_size : Init → ℕ
init_size (init.Byte b) = 1
init_size (init.Zeros n) = n
init_size (init.Address what n) = 4

abbrev pub is_zero : Init → Bool
is_zero (init.Byte b) = b == 0
is_zero (init.Zeros n) = true
is_zero (init.Address what n) = false

-- objects that are not const and of zero bytes alone take no room in the file
abbrev pub kind_of : StaticObj → SectionKind
kind_of x = if x.constant then Rodata else if list_all is_zero x.init then Bss else Data

abbrev pub bytes_in : SectionKind → List Init → List ℕ
bytes_in Text xs = flat_map init_bytes xs
bytes_in Data xs = flat_map init_bytes xs
bytes_in Rodata xs = flat_map init_bytes xs
bytes_in Bss xs = []

abbrev pub object_size : StaticObj → ℕ
object_size x = fitted (sum_by init_size x.init)

abbrev pub object_section : StaticObj → Section
object_section x = record { name = x.key.name; kind = kind_of x; bytes = bytes_in (kind_of x) x.init; size = object_size x }

-- literals are named $0, $1 in the order in which they appear
abbrev pub literal_name : ℕ → List ℕ
literal_name n = codes "$" ++ decimal n

abbrev pub literal_section : ℕ → List ℕ → Section
literal_section n bytes = record { name = literal_name n; kind = Rodata; bytes = bytes; size = fitted (length bytes) }

-- literals from number n on
abbrev pub literal_sections : ℕ → List (List ℕ) → List Section
literal_sections n [] = []
literal_sections n (bytes ∷ more) = literal_section (fitted n) bytes ∷ literal_sections (n + 1) more

-- the text of a function, by the code that a compiler gives to each
abbrev pub function_section : (Fun → Code) → Fun → Section
function_section code f = text_section f.name (code f)

-- objects and literals, each in the order of the module
abbrev pub data_sections : Core → List Section
data_sections core = map object_section core.objects ++ literal_sections 0 core.literals

-- functions, objects and literals, each in the order of the module
abbrev pub sections : (Fun → Code) → Core → List Section
sections code core = (map (function_section code) core.funs ++ map object_section core.objects) ++ literal_sections 0 core.literals
