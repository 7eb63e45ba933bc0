-- Yardstick: to be compared with what it restates (docs/TRUST.md).
-- The types of the library's functions (ANSI 4.2, 4.3, 4.9 to 4.11), and whether a call's type is compatible with one.
use Rattle.std.specs.Prelude.{Bool, true, false, ◌&&◌, List, [], ◌∷◌}
use Rattle.sc_base.specs.declared.integer.Int.{Int}
use Rattle.sc_base.specs.declared.integer.Int.TheVariants.{Char, UInt, Int as PlainInt}
use Rattle.sc_types.specs.declared.ctype.CType.{CType, out-CType}
use Rattle.sc_types.specs.declared.ctype.CType.TheOpen.{CType-F}
use Rattle.sc_types.specs.declared.ctype.Signature.{Signature}
use Rattle.sc_types.specs.Compatibility.{same_int, same_bool, same_const}
use Rattle.sc_meaning.specs.declared.library.LibFun.{LibFun}
use Rattle.sc_meaning.specs.declared.library.LibFun.TheVariants.{Puts, Printf, Getchar, Malloc, Calloc, Realloc, Free, Memcpy, Memmove, Memset, Memcmp, Strlen, Strcpy, Strncpy, Strcat, Strcmp, Strncmp, Strchr, Strrchr, Atoi, Rand, Srand, Exit, AssertFail}

-- `void`, an integer type, `void *`, `char *`; the truth value says whether what is pointed to is `const`
pub data Shape : Type 0 where
  ToNone : Shape
  ToInt : Int → Shape
  ToVoid : Bool → Shape
  ToText : Bool → Shape

-- what a pointer of this shape points to
abbrev pub is_void_target : Bool → CType-F CType Signature → Bool
is_void_target c (CType-F.Void d) = same_bool c d
is_void_target c _ = false

abbrev pub is_char_target : Bool → CType-F CType Signature → Bool
is_char_target c (CType-F.Int i d) = same_int i Char && same_bool c d
is_char_target c _ = false

-- a type has a shape, its own qualifier left aside where it is a parameter's
abbrev pub has_shape : Bool → Shape → CType-F CType Signature → Bool
has_shape own ToNone (CType-F.Void d) = same_const own false d
has_shape own (ToInt i) (CType-F.Int j d) = same_int i j && same_const own false d
has_shape own (ToVoid c) (CType-F.Pointer t d) = same_const own false d && is_void_target c (out-CType t)
has_shape own (ToText c) (CType-F.Pointer t d) = same_const own false d && is_char_target c (out-CType t)
has_shape own _ _ = false

abbrev pub have_shapes : List Shape → List CType → Bool
have_shapes [] [] = true
have_shapes (s ∷ ss) (t ∷ ts) = has_shape false s (out-CType t) && have_shapes ss ts
have_shapes _ _ = false

abbrev pub int : Shape
int = ToInt PlainInt

abbrev pub size_t : Shape
size_t = ToInt UInt

abbrev pub text : Shape
text = ToText false

abbrev pub const_text : Shape
const_text = ToText true

abbrev pub bytes : Shape
bytes = ToVoid false

abbrev pub const_bytes : Shape
const_bytes = ToVoid true

-- the result and the parameters; the functions on characters, and `putchar` and `abs`, go from int to int
abbrev pub shapes_of : LibFun → List Shape
shapes_of Puts = int ∷ const_text ∷ []
shapes_of Printf = int ∷ const_text ∷ []
shapes_of Getchar = int ∷ []
shapes_of Malloc = bytes ∷ size_t ∷ []
shapes_of Calloc = bytes ∷ size_t ∷ size_t ∷ []
shapes_of Realloc = bytes ∷ bytes ∷ size_t ∷ []
shapes_of Free = ToNone ∷ bytes ∷ []
shapes_of Memcpy = bytes ∷ bytes ∷ const_bytes ∷ size_t ∷ []
shapes_of Memmove = bytes ∷ bytes ∷ const_bytes ∷ size_t ∷ []
shapes_of Memset = bytes ∷ bytes ∷ int ∷ size_t ∷ []
shapes_of Memcmp = int ∷ const_bytes ∷ const_bytes ∷ size_t ∷ []
shapes_of Strlen = size_t ∷ const_text ∷ []
shapes_of Strcpy = text ∷ text ∷ const_text ∷ []
shapes_of Strncpy = text ∷ text ∷ const_text ∷ size_t ∷ []
shapes_of Strcat = text ∷ text ∷ const_text ∷ []
shapes_of Strcmp = int ∷ const_text ∷ const_text ∷ []
shapes_of Strncmp = int ∷ const_text ∷ const_text ∷ size_t ∷ []
shapes_of Strchr = text ∷ const_text ∷ int ∷ []
shapes_of Strrchr = text ∷ const_text ∷ int ∷ []
shapes_of Atoi = int ∷ const_text ∷ []
shapes_of Rand = int ∷ []
shapes_of Srand = ToNone ∷ size_t ∷ []
shapes_of Exit = ToNone ∷ int ∷ []
shapes_of AssertFail = ToNone ∷ const_text ∷ const_text ∷ int ∷ []
shapes_of _ = int ∷ int ∷ []

-- `printf` alone takes further arguments
abbrev pub is_variadic : LibFun → Bool
is_variadic Printf = true
is_variadic _ = false

abbrev pub fits_shapes : List Shape → Signature → Bool
fits_shapes [] s = false
fits_shapes (r ∷ ps) s = has_shape true r (out-CType s.result) && have_shapes ps s.params

-- the type by which a library function is called is compatible with its own
abbrev pub takes : LibFun → Signature → Bool
takes f s = same_bool (is_variadic f) s.variadic && fits_shapes (shapes_of f) s
