-- Yardstick: to be compared with what it restates (docs/TRUST.md).
-- The types that `main` and `printf` have (ANSI 2.1.2.2, 4.9.6.3).
use Rattle.std.specs.Prelude.{Bool, true, false, not, ◌&&◌, List, [], ◌∷◌}
use Rattle.sc_base.specs.declared.integer.Int.{Int}
use Rattle.sc_base.specs.declared.integer.Int.TheVariants as i
use Rattle.sc_types.specs.declared.ctype.CType.{CType, out-CType}
use Rattle.sc_types.specs.declared.ctype.CType.TheVariants as t
use Rattle.sc_types.specs.declared.ctype.CType.TheOpen.{CType-F}
use Rattle.sc_types.specs.declared.ctype.Signature.{Signature}

abbrev pub is_plain : Int → Bool
is_plain i.Int = true
is_plain _ = false

abbrev pub is_int_layer : CType-F CType Signature → Bool
is_int_layer (CType-F.Int k c) = is_plain k && not c
is_int_layer _ = false

-- `int`
abbrev pub is_int : CType → Bool
is_int of = is_int_layer (out-CType of)

abbrev pub is_none : List CType → Bool
is_none [] = true
is_none (p ∷ ps) = false

abbrev pub is_main_layer : CType-F CType Signature → Bool
is_main_layer (CType-F.Function s) = is_int s.result && is_none s.params
is_main_layer _ = false

-- `int main(void)`
abbrev pub is_main : CType → Bool
is_main of = is_main_layer (out-CType of)

abbrev pub is_char : Int → Bool
is_char i.Char = true
is_char _ = false

abbrev pub is_constant_char_layer : CType-F CType Signature → Bool
is_constant_char_layer (CType-F.Int k c) = is_char k && c
is_constant_char_layer _ = false

abbrev pub is_constant_char : CType → Bool
is_constant_char of = is_constant_char_layer (out-CType of)

abbrev pub is_text_layer : CType-F CType Signature → Bool
is_text_layer (CType-F.Pointer u c) = is_constant_char u && not c
is_text_layer _ = false

-- `const char *`
abbrev pub is_text : CType → Bool
is_text of = is_text_layer (out-CType of)

abbrev pub is_one_text : List CType → Bool
is_one_text [] = false
is_one_text (p ∷ []) = is_text p
is_one_text (p ∷ q ∷ ps) = false

abbrev pub is_printf_layer : CType-F CType Signature → Bool
is_printf_layer (CType-F.Function s) = is_int s.result && is_one_text s.params && not s.variadic
is_printf_layer _ = false

-- `int printf(const char *)`
abbrev pub is_printf : CType → Bool
is_printf of = is_printf_layer (out-CType of)

abbrev pub variadic_layer : CType → CType-F CType Signature → CType
variadic_layer of (CType-F.Function s) = t.Function (record { result = s.result; params = s.params; variadic = true })
variadic_layer of _ = of

-- the same function with an ellipsis
abbrev pub variadic : CType → CType
variadic of = variadic_layer of (out-CType of)
