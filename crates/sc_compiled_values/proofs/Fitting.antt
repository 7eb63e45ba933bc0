-- What the constructs of a formed expression answer, where their operands answer so.
use Rattle.std.specs.Prelude.{⊤}
use Rattle.std.proofs.Common.{◌≡◌, inl, inr, ℕ, Bool, true, false, not, List, refl, sym, ap, subst}
use Rattle.sc_base.specs.declared.integer.Int.{Int}
use Rattle.sc_base.specs.declared.integer.Int.TheVariants as i
use Rattle.sc_base.specs.declared.operator.Op.{Op}
use Rattle.sc_types.specs.declared.ctype.CType.{CType, out-CType}
use Rattle.sc_types.specs.declared.ctype.CType.TheOpen.{CType-F}
use Rattle.sc_types.specs.declared.ctype.StructDef.{StructDef}
use Rattle.sc_types.specs.Compatibility.{same_int}
use Rattle.sc_core.specs.declared.expression.CoreExpr.{CoreExpr}
use Rattle.sc_core.specs.Types.{type_of}
use Rattle.sc_check_operand.specs.Types.{Level, is_const, shape, shape_layer, is_scalar}
use Rattle.sc_check_operand.specs.Operands.{is_place}
use Rattle.sc_base.specs.declared.operator.Op.TheVariants as op
use Rattle.sc_core_needs.specs.Types.{alike, is_int_of, is_int_level, is_plain_of, is_promoted, points_to, points_level}
use Rattle.sc_core_needs.specs.Values.{is_done, done_level}
use Rattle.sc_core_needs.specs.Operators.{kind_of, binary_by}
use Rattle.sc_meaning.specs.Values.{Value, Number, is_pointer_type}
use Rattle.sc_meaning.specs.World.{World}
use Rattle.sc_meaning.specs.Outcomes.{Outcome, Done, and_then}
use Rattle.sc_meaning.specs.Violations.{bits, integer_rule, truth_rule, store_rule}
use Rattle.sc_meaning.specs.Accesses.{as_type, computed, tested, is_true, stored, set_at}
use Rattle.sc_meaning.specs.Expressions.{Env, Eval, Answer, Plain, Place, Part, Nothing, plain, at_place, used, valued}
use Rattle.sc_meaning.specs.Integers.{IsInteger}
use Rattle.sc_ops.specs.Operators.{value_of}
use Rattle.sc_compiled_frames.specs.Kept.{Ends}
use Rattle.sc_compiled_values.specs.Fits.{Sort, Empty, Whole, Address, Placed, sort, sort_of, IsBits, IsOf, IsPlace, IsValue, OfSort, FitsBy, Fits}
use Rattle.sc_compiled_frames.proofs.Steps.{ends_then}
use Rattle.sc_compiled_values.proofs.Types.{both, not_so, one_int, alike_sort, Has, IsScalar}
use Rattle.sc_compiled_values.proofs.Bits.{wide}
use Rattle.sc_compiled_values.proofs.Loading.{unless_ends, typed_bits, bits_number}

-- answers by sort
pub value_fits : (st : Sort) (a : Answer) → IsScalar st → OfSort st a → IsValue st a
value_fits Empty a h f = elim h [ inl p ↦ absurd (cc) | inr p ↦ (let q = p.1 in absurd (cc)) ]
value_fits (Whole k) a h f = f
value_fits Address a h f = f
value_fits Placed a h f = elim h [ inl p ↦ absurd (cc) | inr p ↦ (let q = p.1 in absurd (cc)) ]

fits_value : (st : Sort) (a : Answer) → IsScalar st → IsValue st a → OfSort st a
fits_value Empty a h f = tt
fits_value (Whole k) a h f = f
fits_value Address a h f = f
fits_value Placed a h f = elim h [ inl p ↦ absurd (cc) | inr p ↦ (let q = p.1 in absurd (cc)) ]

pub has_value : (e : CoreExpr) (st : Sort) (a : Answer) → Has e st → IsScalar st → Fits e a → IsValue st a
has_value e st a has h f = value_fits st a h (subst (λ (y : Sort). OfSort y a) has.of (subst (λ (b : Bool). FitsBy b (sort_of (type_of e)) a) has.form f))

place_by : (b : Bool) (st : Sort) (a : Answer) → st ≡ Placed → FitsBy b st a → IsPlace a
place_by true st a e f = f
place_by false st a e f = subst (λ (y : Sort). OfSort y a) e f

pub has_place : (e : CoreExpr) (a : Answer) → sort_of (type_of e) ≡ Placed → Fits e a → IsPlace a
has_place e a o f = place_by (is_place e) (sort_of (type_of e)) a o f

pub form_place : (e : CoreExpr) (a : Answer) → is_place e ≡ true → Fits e a → IsPlace a
form_place e a o f = subst (λ (b : Bool). FitsBy b (sort_of (type_of e)) a) o f

-- the value that is used
pub used_fits : (st : Sort) (a : Answer) (w : World) → IsValue st a → Ends (λ x u. IsOf st x) (used a w)
used_fits st (Plain v) w f = f
used_fits st (Place q) w f = absurd f
used_fits st (Part q n) w f = absurd f
used_fits st Nothing w f = tt

pub valued_fits : (ev : Eval) (env : Env) (e : CoreExpr) (st : Sort) (w : World) → Has e st → IsScalar st → Ends (λ a v. Fits e a) (ev env e w) → Ends (λ x v. IsOf st x) (valued ev env e w)
valued_fits ev env e st w has h f = ends_then (λ a v. Fits e a) (λ x v. IsOf st x) (ev env e w) used f (λ a v p. used_fits st a v (has_value e st a has h p))

-- the end of an expression
pub plain_fits : (t : CType) (st : Sort) (r : Outcome Value) → sort_of t ≡ st → IsScalar st → Ends (λ x v. IsOf st x) r → Ends (λ a v. OfSort (sort_of t) a) (and_then r plain)
plain_fits t st r o h f = ends_then (λ x v. IsOf st x) (λ a v. OfSort (sort_of t) a) r plain f (λ x v p. subst (λ (y : Sort). OfSort y (Plain x)) (sym o) (fits_value st (Plain x) h p))

pub place_fits : (r : Outcome Value) → Ends (λ x v. ⊤) r → Ends (λ a v. IsPlace a) (and_then r at_place)
place_fits r f = ends_then (λ x v. ⊤) (λ a v. IsPlace a) r at_place f (λ x v p. tt)

-- types
level_int : (k : Int) (l : Level) → is_int_level k l ≡ true → sort l ≡ Whole k
level_int k (CType-F.Int j c) e = ap Whole (one_int j k (both (same_int j k) (not c) e).0)
level_int k (CType-F.Void c) e = absurd (cc)
level_int k (CType-F.Pointer t c) e = absurd (cc)
level_int k (CType-F.Array t n) e = absurd (cc)
level_int k (CType-F.Struct x c) e = absurd (cc)
level_int k (CType-F.Function f) e = absurd (cc)

pub int_sort : (k : Int) (t : CType) → is_int_of k t ≡ true → sort_of t ≡ Whole k
int_sort k t e = level_int k (out-CType t) e

pub plain_sort : (structs : List StructDef) (t u : CType) → is_plain_of structs t u ≡ true → sort_of t ≡ sort_of u
plain_sort structs t u e = alike_sort structs t u (both (not (is_const t)) (alike structs t u) e).1

points_sort_level : (structs : List StructDef) (l : Level) (t : CType) → points_level structs l t ≡ true → sort l ≡ Address
points_sort_level structs (CType-F.Pointer x c) t e = refl
points_sort_level structs (CType-F.Void c) t e = absurd (cc)
points_sort_level structs (CType-F.Int j c) t e = absurd (cc)
points_sort_level structs (CType-F.Array x n) t e = absurd (cc)
points_sort_level structs (CType-F.Struct x c) t e = absurd (cc)
points_sort_level structs (CType-F.Function f) t e = absurd (cc)

pub points_sort : (structs : List StructDef) (p t : CType) → points_to structs p t ≡ true → sort_of p ≡ Address
points_sort structs p t e = points_sort_level structs (out-CType p) t e

scalar_level : (structs : List StructDef) (l : Level) → is_scalar (shape_layer structs l) ≡ true → (st : Sort) × IsScalar st × (sort l ≡ st)
scalar_level structs (CType-F.Int k c) e = (Whole k, inr (k, refl), refl)
scalar_level structs (CType-F.Pointer t c) e = (Address, inl refl, refl)
scalar_level structs (CType-F.Void c) e = absurd (cc)
scalar_level structs (CType-F.Array t n) e = absurd (cc)
scalar_level structs (CType-F.Struct x c) e = absurd (cc)
scalar_level structs (CType-F.Function f) e = absurd (cc)

pub scalar_sort : (structs : List StructDef) (t : CType) → is_scalar (shape structs t) ≡ true → (st : Sort) × IsScalar st × (sort_of t ≡ st)
scalar_sort structs t e = scalar_level structs (out-CType t) e

-- what is done fits its type
done_by : (e : CoreExpr) (l : Level) (b : Bool) (a : Answer) → is_place e ≡ b → done_level e l ≡ true → FitsBy b (sort l) a → OfSort (sort l) a
done_by e (CType-F.Void c) b a o d f = tt
done_by e (CType-F.Int k c) true a o d f = (let q = not_so (is_place e) d in absurd (cc))
done_by e (CType-F.Int k c) false a o d f = f
done_by e (CType-F.Pointer t c) true a o d f = (let q = not_so (is_place e) d in absurd (cc))
done_by e (CType-F.Pointer t c) false a o d f = f
done_by e (CType-F.Array t n) true a o d f = f
done_by e (CType-F.Array t n) false a o d f = f
done_by e (CType-F.Struct x c) true a o d f = f
done_by e (CType-F.Struct x c) false a o d f = f
done_by e (CType-F.Function g) b a o d f = absurd (cc)

pub done_fits : (t : CType) (e : CoreExpr) (a : Answer) → is_done e ≡ true → sort_of t ≡ sort_of (type_of e) → Fits e a → OfSort (sort_of t) a
done_fits t e a d o f = subst (λ (y : Sort). OfSort y a) (sym o) (done_by e (out-CType (type_of e)) (is_place e) a refl d f)

-- operators
pub tested_ends : (P : Bool → World → Type 0) (t : CType) (v : Value) (w : World) → ((yes : Bool) → P yes w) → Ends P (tested t v w)
tested_ends P t v w q = unless_ends P (truth_rule w.objects (is_pointer_type t) v) _ (λ w. Done (is_true v) w) w (λ e. q (is_true v))

pub computed_fits : (r : Int) (o : Op) (k : Int) (x : Value) (j : Int) (y : Value) (w : World) → is_promoted r ≡ true → Ends (λ v u. IsBits r v) (computed o k x j y w)
computed_fits r o k x j y w p = unless_ends (λ v u. IsBits r v) (integer_rule o k x y) _ (λ w. Done (Number (value_of o k (bits x) (bits y))) w) w (λ e. wide r (value_of o k (bits x) (bits y)) p)

pub computed_typed : (t : CType) (r : Int) (o : Op) (k : Int) (x : Value) (j : Int) (y : Value) (w : World) → sort_of t ≡ Whole r → Ends (λ n u. IsBits r (as_type t n)) (computed o k x j y w)
computed_typed t r o k x j y w e = unless_ends (λ n u. IsBits r (as_type t n)) (integer_rule o k x y) _ (λ w. Done (Number (value_of o k (bits x) (bits y))) w) w (λ q. typed_bits t r (Number (value_of o k (bits x) (bits y))) e tt)

pub stored_fits : (P : Value → Type 0) (t : CType) (p : Value) (further : ℕ) (v : Value) (w : World) → P v → Ends (λ x u. P x) (stored t p further v w)
stored_fits P t p further v w h = unless_ends (λ x u. P x) (store_rule w.objects p further _) _ (λ w. Done v (set_at p further _ v w)) w (λ e. h)

pub binary_sort : (o : Op) (t : CType) (j k : Int) → binary_by (kind_of o) t j k ≡ true → is_promoted j ≡ true → (r : Int) × (is_promoted r ≡ true) × (sort_of t ≡ Whole r)
binary_sort op.Add t j k e p = (j, p, int_sort j t (both (same_int j k) (is_int_of j t) e).1)
binary_sort op.Sub t j k e p = (j, p, int_sort j t (both (same_int j k) (is_int_of j t) e).1)
binary_sort op.Mul t j k e p = (j, p, int_sort j t (both (same_int j k) (is_int_of j t) e).1)
binary_sort op.Div t j k e p = (j, p, int_sort j t (both (same_int j k) (is_int_of j t) e).1)
binary_sort op.Rem t j k e p = (j, p, int_sort j t (both (same_int j k) (is_int_of j t) e).1)
binary_sort op.And t j k e p = (j, p, int_sort j t (both (same_int j k) (is_int_of j t) e).1)
binary_sort op.Or t j k e p = (j, p, int_sort j t (both (same_int j k) (is_int_of j t) e).1)
binary_sort op.Xor t j k e p = (j, p, int_sort j t (both (same_int j k) (is_int_of j t) e).1)
binary_sort op.Shl t j k e p = (j, p, int_sort j t e)
binary_sort op.Shr t j k e p = (j, p, int_sort j t e)
binary_sort op.Lt t j k e p = (i.Int, refl, int_sort i.Int t (both (same_int j k) (is_int_of i.Int t) e).1)
binary_sort op.Gt t j k e p = (i.Int, refl, int_sort i.Int t (both (same_int j k) (is_int_of i.Int t) e).1)
binary_sort op.Le t j k e p = (i.Int, refl, int_sort i.Int t (both (same_int j k) (is_int_of i.Int t) e).1)
binary_sort op.Ge t j k e p = (i.Int, refl, int_sort i.Int t (both (same_int j k) (is_int_of i.Int t) e).1)
binary_sort op.Eq t j k e p = (i.Int, refl, int_sort i.Int t (both (same_int j k) (is_int_of i.Int t) e).1)
binary_sort op.Ne t j k e p = (i.Int, refl, int_sort i.Int t (both (same_int j k) (is_int_of i.Int t) e).1)
binary_sort op.Neg t j k e p = absurd (cc)
binary_sort op.Not t j k e p = absurd (cc)
binary_sort op.Truth t j k e p = absurd (cc)
binary_sort op.Inc t j k e p = absurd (cc)
binary_sort op.Dec t j k e p = absurd (cc)

-- a value of an integer type is no pointer
pub integer_answer : (k : Int) (a : Answer) → OfSort (Whole k) a → IsInteger a
integer_answer k (Plain v) h = bits_number k v h
integer_answer k (Place p) h = absurd h
integer_answer k (Part p n) h = absurd h
integer_answer k Nothing h = tt
