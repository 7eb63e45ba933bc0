-- Yardstick: to be compared with what it restates (docs/TRUST.md).
-- How a type is shown: from the outside in, with `const` in front of what is so; an integer type by its name (ANSI 3.5.2).
use Rattle.std.specs.Prelude.{ℕ, ◌++◌, Bool, true, false, if◌then◌else◌, List, [], ◌∷◌, codes, decimal, Option, Some, None, slice_get}
use Rattle.sc_base.specs.declared.integer.Int.{Int}
use Rattle.sc_base.specs.declared.integer.Int.TheVariants as int
use Rattle.sc_types.specs.declared.ctype.CType.{CType, fold-CType}
use Rattle.sc_types.specs.declared.ctype.CType.TheOpen.{CType-F, Signature-F}
use Rattle.sc_types.specs.declared.ctype.Signature.{Signature, fold-Signature}
use Rattle.sc_types.specs.declared.ctype.StructDef.{StructDef}

abbrev pub int_name : Int → List ℕ
int_name int.Char = codes "char"
int_name int.SChar = codes "signed char"
int_name int.UChar = codes "unsigned char"
int_name int.Short = codes "short"
int_name int.UShort = codes "unsigned short"
int_name int.Int = codes "int"
int_name int.UInt = codes "unsigned int"
int_name int.Long = codes "long"
int_name int.ULong = codes "unsigned long"

abbrev pub const_word : Bool → List ℕ
const_word c = if c then codes "const " else []

abbrev pub struct_word : Bool → List ℕ
struct_word is_union = if is_union then codes "union " else codes "struct "

abbrev pub tag_by : Option (List ℕ) → List ℕ
tag_by None = codes "?"
tag_by (Some tag) = tag

abbrev pub tag_of : StructDef → List ℕ
tag_of d = tag_by d.tag

abbrev pub def_text : StructDef → List ℕ
def_text d = struct_word d.is_union ++ tag_of d

abbrev pub def_by : Option StructDef → List ℕ
def_by None = codes "struct ?"
def_by (Some d) = def_text d

abbrev pub struct_text : List StructDef → ℕ → List ℕ
struct_text structs id = def_by (slice_get structs id)

abbrev pub last_text : Bool → List ℕ
last_text variadic = if variadic then codes ", ..." else []

abbrev pub separator : Bool → List ℕ
separator first = if first then [] else codes ", "

abbrev pub listed : Bool → List (List ℕ) → List ℕ
listed first [] = []
listed first (t ∷ ts) = separator first ++ (t ++ listed false ts)

-- `void` where there is no parameter
abbrev pub parameters_text : Bool → List (List ℕ) → List ℕ
parameters_text variadic [] = codes "void"
parameters_text variadic (t ∷ ts) = listed true (t ∷ ts) ++ last_text variadic

abbrev pub level : List StructDef → CType-F (List ℕ) (List ℕ) → List ℕ
level structs (CType-F.Void c) = const_word c ++ codes "void"
level structs (CType-F.Int k c) = const_word c ++ int_name k
level structs (CType-F.Pointer t c) = const_word c ++ (codes "pointer to " ++ t)
level structs (CType-F.Array t n) = codes "array " ++ (decimal n ++ (codes " of " ++ t))
level structs (CType-F.Struct id c) = const_word c ++ struct_text structs id
level structs (CType-F.Function s) = s

abbrev pub signature : Signature-F (List ℕ) (List ℕ) → List ℕ
signature s = codes "function (" ++ (parameters_text s.variadic s.params ++ (codes ") giving " ++ s.result))

abbrev pub type_text : List StructDef → CType → List ℕ
type_text structs = fold-CType (List ℕ) (List ℕ) (level structs) signature

abbrev pub signature_text : List StructDef → Signature → List ℕ
signature_text structs = fold-Signature (List ℕ) (List ℕ) (level structs) signature
