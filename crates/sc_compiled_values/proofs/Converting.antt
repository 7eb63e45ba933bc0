-- Conversions and casts.
use Rattle.std.specs.Prelude.{◌&&◌, ◌||◌}
use Rattle.std.proofs.Common.{◌≡◌, inl, inr, ℕ, Bool, true, false, not, List, refl, sym, ap, subst}
use Rattle.sc_base.specs.declared.integer.Int.{Int}
use Rattle.sc_types.specs.declared.ctype.CType.{CType, out-CType}
use Rattle.sc_types.specs.declared.ctype.CType.TheOpen.{CType-F}
use Rattle.sc_types.specs.declared.ctype.StructDef.{StructDef}
use Rattle.sc_core.specs.declared.expression.CoreExpr.{CoreExpr}
use Rattle.sc_core.specs.Types.{type_of}
use Rattle.sc_check_operand.specs.declared.shape.Shape.{Shape}
use Rattle.sc_check_operand.specs.declared.shape.Shape.TheVariants as s
use Rattle.sc_check_operand.specs.Types.{Level, is_const, shape, shape_layer}
use Rattle.sc_check_operand.specs.Operands.{is_place, is_lvalue}
use Rattle.sc_check_operand.specs.Constants.{is_zero, is_null, folded}
use Rattle.sc_core_needs.specs.Types.{takes_level}
use Rattle.sc_core_needs.specs.Values.{is_convert, is_done, is_int_level, is_pointer_level, converts, converts_level, value}
use Rattle.sc_core_needs.specs.Nodes as nodes
use Rattle.sc_meaning.specs.Values.{Value}
use Rattle.sc_meaning.specs.World.{World}
use Rattle.sc_meaning.specs.Outcomes.{Done, and_then}
use Rattle.sc_meaning.specs.Accesses.{as_type, loaded}
use Rattle.sc_meaning.specs.Expressions.{Answer, Plain, Place, Part, Nothing, used, read, decayed, layer_read, as_answer, conversion, address, cast, plain, layer_is_void, is_void}
use Rattle.sc_compiled_frames.specs.Kept.{Ends}
use Rattle.sc_compiled_frames.proofs.Steps.{ends_then, ends_more}
use Rattle.sc_compiled_values.specs.Fits.{Sort, Whole, Address, sort, sort_of, IsOf, IsValue, OfSort, FitsBy, Fits}
use Rattle.sc_compiled_values.proofs.Types.{both, three, Has, IsScalar, has_whole}
use Rattle.sc_compiled_values.proofs.Loading.{loaded_of, typed_bits, bits_number}
use Rattle.sc_compiled_values.proofs.Fitting.{value_fits, has_value, used_fits}
use Rattle.sc_compiled_values.proofs.Formed.{then_ends}

plain_by : (b : Bool) (st : Sort) (v : Value) → IsScalar st → FitsBy b st (Plain v) → IsOf st v
plain_by true st v k f = absurd f
plain_by false st v k f = value_fits st (Plain v) k f

read_fits : (b : Bool) (st : Sort) (t : CType) (x : Answer) (w : World) → sort_of t ≡ st → IsScalar st → FitsBy b st x → Ends (λ y v. IsValue st y) (read t x w)
read_fits b st t (Plain v) w o k f = plain_by b st v k f
read_fits b st t (Place q) w o k f = ends_then (λ v u. IsOf st v) (λ y v. IsValue st y) (loaded t q 0 w) _ (loaded_of t st q 0 w o k) (λ v u h. h)
read_fits b st t (Part q n) w o k f = ends_then (λ v u. IsOf st v) (λ y v. IsValue st y) (loaded t q n w) _ (loaded_of t st q n w o k) (λ v u h. h)
read_fits b st t Nothing w o k f = tt

as_bits : (t : CType) (k j : Int) (y : Answer) → sort_of t ≡ Whole j → IsValue (Whole k) y → IsValue (Whole j) (as_answer t y)
as_bits t k j (Plain v) o h = typed_bits t j v o (bits_number k v h)
as_bits t k j (Place p) o h = h
as_bits t k j (Part p n) o h = h
as_bits t k j Nothing o h = tt

as_address : (t : CType) (st : Sort) (y : Answer) → IsValue st y → IsValue Address (as_answer t y)
as_address t st (Plain v) h = tt
as_address t st (Place p) h = h
as_address t st (Part p n) h = h
as_address t st Nothing h = tt

of_address : (st : Sort) (y : Answer) → st ≡ Address → IsValue Address y → OfSort st y
of_address st y e h = subst (λ (z : Sort). OfSort z y) (sym e) h

decayed_fits : (to : CType) (x : Answer) (w : World) → Ends (λ y v. IsValue Address y) (and_then (decayed x w) (λ a w. Done (as_answer to a) w))
decayed_fits to x w =
    ends_then (λ y v. IsValue Address y) (λ y v. IsValue Address y) (decayed x w) _ (then_ends (λ y v. IsValue Address y) (address x w) _ (λ v u. tt)) (λ y v q. as_address to Address y q)

from_whole : (from to : CType) (k : Int) (e : CoreExpr) (m : Level) (x : Answer) (w : World) → sort_of from ≡ Whole k → out-CType to ≡ m → FitsBy (is_place e) (Whole k) x → (is_int_level m || (is_pointer_level m && is_zero (folded e))) ≡ true → Ends (λ y v. OfSort (sort m) y) (and_then (read from x w) (λ a w. Done (as_answer to a) w))
from_whole from to k e (CType-F.Int j c) x w o q f h =
    ends_then (λ y v. IsValue (Whole k) y) (λ y v. IsValue (Whole j) y) (read from x w) _ (read_fits (is_place e) (Whole k) from x w o (inr (k, refl)) f) (λ y v r. as_bits to k j y (ap sort q) r)
from_whole from to k e (CType-F.Pointer u c) x w o q f h =
    ends_then (λ y v. IsValue (Whole k) y) (λ y v. IsValue Address y) (read from x w) _ (read_fits (is_place e) (Whole k) from x w o (inr (k, refl)) f) (λ y v r. as_address to (Whole k) y r)
from_whole from to k e (CType-F.Void c) x w o q f h = absurd (cc)
from_whole from to k e (CType-F.Array u n) x w o q f h = absurd (cc)
from_whole from to k e (CType-F.Struct g c) x w o q f h = absurd (cc)
from_whole from to k e (CType-F.Function g) x w o q f h = absurd (cc)

to_pointer : (structs : List StructDef) (m : Level) (u : CType) (e : CoreExpr) → (takes_level structs m u || (is_pointer_level m && is_null e)) ≡ true → sort m ≡ Address
to_pointer structs (CType-F.Pointer x c) u e h = refl
to_pointer structs (CType-F.Int j c) u e h = absurd (cc)
to_pointer structs (CType-F.Void c) u e h = absurd (cc)
to_pointer structs (CType-F.Array x n) u e h = absurd (cc)
to_pointer structs (CType-F.Struct g c) u e h = absurd (cc)
to_pointer structs (CType-F.Function g) u e h = absurd (cc)

takes_pointer : (structs : List StructDef) (m : Level) (u : CType) → takes_level structs m u ≡ true → sort m ≡ Address
takes_pointer structs (CType-F.Pointer x c) u h = refl
takes_pointer structs (CType-F.Int j c) u h = absurd (cc)
takes_pointer structs (CType-F.Void c) u h = absurd (cc)
takes_pointer structs (CType-F.Array x n) u h = absurd (cc)
takes_pointer structs (CType-F.Struct g c) u h = absurd (cc)
takes_pointer structs (CType-F.Function g) u h = absurd (cc)

convert_level : (structs : List StructDef) (to : CType) (e : CoreExpr) (l : Level) (x : Answer) (w : World) → out-CType (type_of e) ≡ l → Fits e x → converts_level structs (out-CType to) l e ≡ true
    → Ends (λ y v. OfSort (sort_of to) y) (and_then (layer_read l (type_of e) x w) (λ a w. Done (as_answer to a) w))
convert_level structs to e (CType-F.Int k c) x w o f h =
    from_whole (type_of e) to k e (out-CType to) x w (ap sort o) refl (subst (λ (y : Level). FitsBy (is_place e) (sort y) x) o f) h
convert_level structs to e (CType-F.Pointer u c) x w o f h =
    let a : sort_of to ≡ Address = to_pointer structs (out-CType to) u e h in
    ends_then (λ y v. IsValue Address y) (λ y v. OfSort (sort_of to) y) (read (type_of e) x w) _ (read_fits (is_place e) Address (type_of e) x w (ap sort o) (inl refl) (subst (λ (y : Level). FitsBy (is_place e) (sort y) x) o f)) (λ y v r. of_address (sort_of to) (as_answer to y) a (as_address to Address y r))
convert_level structs to e (CType-F.Array u n) x w o f h =
    let a : sort_of to ≡ Address = takes_pointer structs (out-CType to) u (both (is_lvalue e) (takes_level structs (out-CType to) u) h).1 in
    ends_more (λ y v. IsValue Address y) (λ y v. OfSort (sort_of to) y) (and_then (decayed x w) (λ a w. Done (as_answer to a) w)) (decayed_fits to x w) (λ y v r. of_address (sort_of to) y a r)
convert_level structs to e (CType-F.Function g) x w o f h =
    let a : sort_of to ≡ Address = takes_pointer structs (out-CType to) (type_of e) h in
    ends_more (λ y v. IsValue Address y) (λ y v. OfSort (sort_of to) y) (and_then (decayed x w) (λ a w. Done (as_answer to a) w)) (decayed_fits to x w) (λ y v r. of_address (sort_of to) y a r)
convert_level structs to e (CType-F.Void c) x w o f h = absurd (cc)
convert_level structs to e (CType-F.Struct g c) x w o f h = absurd (cc)

pub conversion_fits : (structs : List StructDef) (to : CType) (e : CoreExpr) (x : Answer) (w : World) → Fits e x → converts structs to e ≡ true → Ends (λ y v. OfSort (sort_of to) y) (conversion (type_of e) to x w)
conversion_fits structs to e x w f h = convert_level structs to e (out-CType (type_of e)) x w refl f (three (not (is_convert e)) (not (is_const to)) (converts_level structs (out-CType to) (out-CType (type_of e)) e) h).2

-- ---- casts
from_integer : (structs : List StructDef) (e : CoreExpr) (x : Shape) → value structs e ≡ x → nodes.from_integer x ≡ true → (k : Int) × Has e (Whole k)
from_integer structs e (s.Integer k) p h = (k, has_whole structs e k p)
from_integer structs e (s.Object n) p h = absurd (cc)
from_integer structs e s.Incomplete p h = absurd (cc)
from_integer structs e s.Callable p h = absurd (cc)
from_integer structs e s.Void p h = absurd (cc)
from_integer structs e (s.Structure n) p h = absurd (cc)
from_integer structs e s.Other p h = absurd (cc)

-- what is cast to a pointer
pointer_cast : (t : CType) (x : Answer) (w : World) → Ends (λ y v. OfSort Address y) (cast false t x w)
pointer_cast t x w = then_ends (λ y v. OfSort Address y) (used x w) (λ v w. plain (as_type t v) w) (λ v u. tt)

integer_cast : (t : CType) (j k : Int) (e : CoreExpr) (x : Answer) (w : World) → sort_of t ≡ Whole j → Has e (Whole k) → Fits e x → Ends (λ y v. OfSort (Whole j) y) (cast false t x w)
integer_cast t j k e x w o has f =
    ends_then (λ v u. IsOf (Whole k) v) (λ y v. OfSort (Whole j) y) (used x w) (λ v w. plain (as_type t v) w) (used_fits (Whole k) x w (has_value e (Whole k) x has (inr (k, refl)) f)) (λ v u h. typed_bits t j v o (bits_number k v h))

no_structure : (structs : List StructDef) (n : ℕ) (e : CoreExpr) (x : Shape) → nodes.cast_by (s.Structure n) x e ≡ true → ⊥
no_structure structs n e x h = absurd (cc)

no_other : (structs : List StructDef) (e : CoreExpr) (x : Shape) → nodes.cast_by s.Other x e ≡ true → ⊥
no_other structs e x h = absurd (cc)

cast_level : (structs : List StructDef) (t : CType) (l : Level) (e : CoreExpr) (x : Answer) (w : World) → out-CType t ≡ l → nodes.cast_by (shape_layer structs l) (value structs e) e ≡ true → Fits e x → Ends (λ y v. OfSort (sort l) y) (cast (layer_is_void l) t x w)
cast_level structs t (CType-F.Void c) e x w o h f = tt
cast_level structs t (CType-F.Int j c) e x w o h f = let k = from_integer structs e (value structs e) refl h in integer_cast t j k.0 e x w (ap sort o) k.1 f
cast_level structs t (CType-F.Pointer u c) e x w o h f = pointer_cast t x w
cast_level structs t (CType-F.Array u n) e x w o h f = absurd (no_other structs e (value structs e) h)
cast_level structs t (CType-F.Struct g c) e x w o h f = absurd (no_structure structs g e (value structs e) h)
cast_level structs t (CType-F.Function g) e x w o h f = absurd (no_other structs e (value structs e) h)

pub cast_fits : (structs : List StructDef) (t : CType) (e : CoreExpr) (x : Answer) (w : World) → Fits e x → nodes.is_cast structs t e ≡ true → Ends (λ y v. OfSort (sort_of t) y) (cast (is_void t) t x w)
cast_fits structs t e x w f h = cast_level structs t (out-CType t) e x w refl (three (is_done e) (not (is_const t)) (nodes.cast_by (shape structs t) (value structs e) e) h).2 f
