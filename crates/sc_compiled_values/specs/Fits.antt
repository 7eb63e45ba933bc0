-- Inside: plumbing, a representation, an invariant or a promise beside the claim (docs/TRUST.md).
-- What an expression answers by the form and the type that it has.
use Rattle.std.specs.Prelude.{◌≡◌, ⊤, ℕ, Bool, true, false}
use Rattle.sc_base.specs.declared.integer.Int.{Int}
use Rattle.sc_base.specs.declared.integer.Int.TheVariants as int
use Rattle.sc_types.specs.declared.ctype.CType.{CType, out-CType}
use Rattle.sc_types.specs.declared.ctype.CType.TheOpen.{CType-F}
use Rattle.sc_ops.specs.Numbers.{converted}
use Rattle.sc_core.specs.declared.expression.CoreExpr.{CoreExpr, out-CoreExpr}
use Rattle.sc_core.specs.declared.expression.CoreExpr.TheOpen.{CoreExpr-F}
use Rattle.sc_core.specs.Types.{layer_type}
use Rattle.sc_check_operand.specs.Types.{Level}
use Rattle.sc_check_operand.specs.Operands.{place_layer}
use Rattle.sc_meaning.specs.Values.{Value, Number, FunctionAt, Pointer}
use Rattle.sc_meaning.specs.Expressions.{Answer, Plain, Place, Part, Nothing}

-- what a type's values are: none, numbers of an integer type, pointers; and where a value stays a place
pub data Sort : Type 0 where
  Empty : Sort
  Whole : Int → Sort
  Address : Sort
  Placed : Sort

abbrev pub sort : Level → Sort
sort (CType-F.Void c) = Empty
sort (CType-F.Int i c) = Whole i
sort (CType-F.Pointer t c) = Address
sort (CType-F.Array t n) = Placed
sort (CType-F.Struct s c) = Placed
sort (CType-F.Function f) = Placed

abbrev pub sort_of : CType → Sort
sort_of t = sort (out-CType t)

-- the numbers of a type below 32 bits are those of its range
abbrev pub IsInRange : Int → ℕ → Type 0
IsInRange int.Char n = converted n int.Char ≡ n
IsInRange int.SChar n = converted n int.SChar ≡ n
IsInRange int.UChar n = converted n int.UChar ≡ n
IsInRange int.Short n = converted n int.Short ≡ n
IsInRange int.UShort n = converted n int.UShort ≡ n
IsInRange int.Int n = ⊤
IsInRange int.UInt n = ⊤
IsInRange int.Long n = ⊤
IsInRange int.ULong n = ⊤

abbrev pub IsBits : Int → Value → Type 0
IsBits i (Number n) = IsInRange i n
IsBits i (FunctionAt k) = ⊥
IsBits i (Pointer o at) = ⊥

abbrev pub IsOf : Sort → Value → Type 0
IsOf Empty v = ⊥
IsOf (Whole i) v = IsBits i v
IsOf Address v = ⊤
IsOf Placed v = ⊥

abbrev pub IsPlace : Answer → Type 0
IsPlace (Plain v) = ⊥
IsPlace (Place p) = ⊤
IsPlace (Part p n) = ⊤
IsPlace Nothing = ⊥

-- a value of the sort, or nothing where a call gave none
abbrev pub IsValue : Sort → Answer → Type 0
IsValue s (Plain v) = IsOf s v
IsValue s (Place p) = ⊥
IsValue s (Part p n) = ⊥
IsValue s Nothing = ⊤

abbrev pub OfSort : Sort → Answer → Type 0
OfSort Empty a = ⊤
OfSort (Whole i) a = IsValue (Whole i) a
OfSort Address a = IsValue Address a
OfSort Placed a = IsPlace a

-- what a call gives: functions that give structures are not called
abbrev pub IsResult : Sort → Answer → Type 0
IsResult Empty a = ⊤
IsResult (Whole i) a = IsValue (Whole i) a
IsResult Address a = IsValue Address a
IsResult Placed a = ⊤

abbrev pub FitsBy : Bool → Sort → Answer → Type 0
FitsBy true s a = IsPlace a
FitsBy false s a = OfSort s a

-- An expression of this form answers so.
abbrev pub FitsLayer : CoreExpr-F CoreExpr → Answer → Type 0
FitsLayer x a = FitsBy (place_layer x) (sort_of (layer_type x)) a

abbrev pub Fits : CoreExpr → Answer → Type 0
Fits e a = FitsLayer (out-CoreExpr e) a
