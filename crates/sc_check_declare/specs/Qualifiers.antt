-- Yardstick: to be compared with what it restates (docs/TRUST.md).
-- The qualifier of a type (ANSI 3.5.3).
use Rattle.std.specs.Prelude.{Bool, true, false, if◌then◌else◌}
use Rattle.sc_types.specs.declared.ctype.CType.{CType, fold-CType, out-CType}
use Rattle.sc_types.specs.declared.ctype.Signature.{Signature}
use Rattle.sc_types.specs.declared.ctype.CType.TheVariants as t
use Rattle.sc_types.specs.declared.ctype.CType.TheOpen.{CType-F}

-- One level: of an array the elements are qualified, a function has no qualifier.
abbrev pub qualify : CType-F (CType → CType) (Unit {0}) → CType-F CType Signature → CType
qualify (CType-F.Array f n) (CType-F.Array u m) = t.Array (f u) m
qualify _ (CType-F.Void c) = t.Void true
qualify _ (CType-F.Int i c) = t.Int i true
qualify _ (CType-F.Pointer u c) = t.Pointer u true
qualify _ (CType-F.Array u m) = t.Array u m
qualify _ (CType-F.Struct id c) = t.Struct id true
qualify _ (CType-F.Function s) = t.Function s

-- the const type
abbrev pub qualified : CType → CType
qualified of = fold-CType (CType → CType) (Unit {0}) (λ f u. qualify f (out-CType u)) (λ _. tt) of of

abbrev pub with_const : Bool → CType → CType
with_const constant of = if constant then qualified of else of

abbrev pub plain : CType-F CType Signature → CType
plain (CType-F.Void c) = t.Void false
plain (CType-F.Int i c) = t.Int i false
plain (CType-F.Pointer u c) = t.Pointer u false
plain (CType-F.Array u m) = t.Array u m
plain (CType-F.Struct id c) = t.Struct id false
plain (CType-F.Function s) = t.Function s

-- the type without its own qualifier
abbrev pub unqualified : CType → CType
unqualified of = plain (out-CType of)

abbrev pub constant_layer : CType-F Bool (Unit {0}) → Bool
constant_layer (CType-F.Void c) = c
constant_layer (CType-F.Int i c) = c
constant_layer (CType-F.Pointer u c) = c
constant_layer (CType-F.Array u m) = u
constant_layer (CType-F.Struct id c) = c
constant_layer (CType-F.Function s) = false

-- whether an object of the type is const: an array where its elements are
abbrev pub is_constant : CType → Bool
is_constant = fold-CType Bool (Unit {0}) constant_layer (λ _. tt)
