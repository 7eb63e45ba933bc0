-- What formed trees say of the types and the forms of operands.
use Rattle.std.proofs.Common.{◌≡◌, ◌⊎◌, inl, inr, ℕ, Bool, true, false, not, if◌then◌else◌, List, Option, Some, None, refl, sym, ap, ◌∙◌}
use Rattle.std.specs.Prelude.{◌&&◌}
use Rattle.sc_base.specs.declared.integer.Int.{Int}
use Rattle.sc_base.specs.declared.integer.Int.TheVariants as i
use Rattle.sc_types.specs.declared.ctype.CType.{CType, out-CType, map-CType, fold-CType, fold_out-CType}
use Rattle.sc_types.specs.declared.ctype.CType.TheOpen.{CType-F}
use Rattle.sc_types.specs.declared.ctype.Signature.{Signature}
use Rattle.sc_types.specs.declared.ctype.StructDef.{StructDef}
use Rattle.sc_types.specs.Compatibility.{same_int}
use Rattle.sc_core.specs.declared.expression.CoreExpr.{CoreExpr}
use Rattle.sc_core.specs.Types.{type_of}
use Rattle.sc_check_operand.specs.declared.shape.Shape.{Shape}
use Rattle.sc_check_operand.specs.declared.shape.Shape.TheVariants as s
use Rattle.sc_check_operand.specs.Types.{Level, shape, shape_layer, target_shape, object_size, is_pointer, is_scalar}
use Rattle.sc_check_operand.specs.Operands.{is_place}
use Rattle.sc_core_needs.specs.Types.{alike, alike_level}
use Rattle.sc_core_needs.specs.Values.{is_done, done_level, value}
use Rattle.sc_compiled_values.specs.Fits.{Sort, Whole, Address, sort, sort_of}

pub both : (a b : Bool) → (a && b) ≡ true → (a ≡ true) × (b ≡ true)
both true b e = (refl, e)
both false b e = absurd (cc)

pub three : (a b c : Bool) → (a && b && c) ≡ true → (a ≡ true) × (b ≡ true) × (c ≡ true)
three true true c e = (refl, refl, e)
three true false c e = absurd (cc)
three false b c e = absurd (cc)

pub not_so : (b : Bool) → not b ≡ true → b ≡ false
not_so true e = absurd (cc)
not_so false e = refl

-- one integer type
pub one_int : (a b : Int) → same_int a b ≡ true → a ≡ b
one_int i.Char i.Char e = refl
one_int i.SChar i.SChar e = refl
one_int i.UChar i.UChar e = refl
one_int i.Short i.Short e = refl
one_int i.UShort i.UShort e = refl
one_int i.Int i.Int e = refl
one_int i.UInt i.UInt e = refl
one_int i.Long i.Long e = refl
one_int i.ULong i.ULong e = refl
one_int _ _ e = absurd (cc)

-- types that are alike have one sort
alike_level_sort : (structs : List StructDef) (p : CType-F (CType → CType → Bool) (Unit {0})) (x y : Level) (t u : CType) → alike_level structs p x y t u ≡ true → sort x ≡ sort y
alike_level_sort structs (CType-F.Void _) (CType-F.Void c) (CType-F.Void d) t u e = refl
alike_level_sort structs (CType-F.Int _ _) (CType-F.Int a c) (CType-F.Int b d) t u e = ap Whole (one_int a b e)
alike_level_sort structs (CType-F.Pointer _ _) (CType-F.Pointer x c) (CType-F.Pointer y d) t u e = refl
alike_level_sort structs (CType-F.Array p _) (CType-F.Array x n) (CType-F.Array y m) t u e = refl
alike_level_sort structs (CType-F.Struct _ _) (CType-F.Struct a c) (CType-F.Struct b d) t u e = refl
alike_level_sort structs (CType-F.Function _) (CType-F.Function f) (CType-F.Function g) t u e = refl
alike_level_sort structs _ _ _ t u e = absurd (cc)

abbrev tests : List StructDef → CType → CType → CType → Bool
tests structs = fold-CType (CType → CType → Bool) (Unit {0}) (λ p t u. alike_level structs p (out-CType t) (out-CType u) t u) (λ _. tt)

pub alike_sort : (structs : List StructDef) (t u : CType) → alike structs t u ≡ true → sort_of t ≡ sort_of u
alike_sort structs t u e =
    alike_level_sort structs (map-CType CType Signature (CType → CType → Bool) (Unit {0}) (tests structs) (λ _. tt) (out-CType t)) (out-CType t) (out-CType u) t u
    (sym (ap (λ (f : CType → CType → Bool). f t u) (fold_out-CType (CType → CType → Bool) (Unit {0}) (λ p t u. alike_level structs p (out-CType t) (out-CType u) t u) (λ _. tt) t)) ∙ e)

-- an operand has its value, of this sort
pub record Has (e : CoreExpr) (s : Sort) : Type 0 where
  pub form : is_place e ≡ false
  pub of : sort_of (type_of e) ≡ s

abbrev chosen : Bool → Shape → Shape
chosen b x = if b then x else s.Other

target_scalar : (n : Option ℕ) (l : Level) (k : Int) → target_shape n l ≡ s.Integer k → ⊥
target_scalar n (CType-F.Function f) k e = absurd (cc)
target_scalar (Some n) (CType-F.Void c) k e = absurd (cc)
target_scalar (Some n) (CType-F.Int i c) k e = absurd (cc)
target_scalar (Some n) (CType-F.Pointer t c) k e = absurd (cc)
target_scalar (Some n) (CType-F.Array t m) k e = absurd (cc)
target_scalar (Some n) (CType-F.Struct i c) k e = absurd (cc)
target_scalar None (CType-F.Void c) k e = absurd (cc)
target_scalar None (CType-F.Int i c) k e = absurd (cc)
target_scalar None (CType-F.Pointer t c) k e = absurd (cc)
target_scalar None (CType-F.Array t m) k e = absurd (cc)
target_scalar None (CType-F.Struct i c) k e = absurd (cc)

pub shape_whole : (structs : List StructDef) (l : Level) (k : Int) → shape_layer structs l ≡ s.Integer k → sort l ≡ Whole k
shape_whole structs (CType-F.Void c) k e = absurd (cc)
shape_whole structs (CType-F.Int j c) k e = ap Whole (cc)
shape_whole structs (CType-F.Pointer t c) k e = absurd (target_scalar (object_size structs t) (out-CType t) k e)
shape_whole structs (CType-F.Array t m) k e = absurd (cc)
shape_whole structs (CType-F.Struct i c) k e = absurd (cc)
shape_whole structs (CType-F.Function f) k e = absurd (cc)

pub shape_address : (structs : List StructDef) (l : Level) → is_pointer (shape_layer structs l) ≡ true → sort l ≡ Address
shape_address structs (CType-F.Void c) e = absurd (cc)
shape_address structs (CType-F.Int j c) e = absurd (cc)
shape_address structs (CType-F.Pointer t c) e = refl
shape_address structs (CType-F.Array t m) e = absurd (cc)
shape_address structs (CType-F.Struct i c) e = absurd (cc)
shape_address structs (CType-F.Function f) e = absurd (cc)

-- what is done and has a scalar type has been read
pub done_form : (e : CoreExpr) (l : Level) (st : Sort) → done_level e l ≡ true → sort l ≡ st → (st ≡ Address) ⊎ ((k : Int) × (st ≡ Whole k)) → is_place e ≡ false
done_form e (CType-F.Void c) st d o h = elim h [ inl p ↦ absurd (cc) | inr p ↦ (let q = p.1 in absurd (cc)) ]
done_form e (CType-F.Int j c) st d o h = not_so (is_place e) d
done_form e (CType-F.Pointer t c) st d o h = not_so (is_place e) d
done_form e (CType-F.Array t m) st d o h = elim h [ inl p ↦ absurd (cc) | inr p ↦ (let q = p.1 in absurd (cc)) ]
done_form e (CType-F.Struct i c) st d o h = elim h [ inl p ↦ absurd (cc) | inr p ↦ (let q = p.1 in absurd (cc)) ]
done_form e (CType-F.Function f) st d o h = elim h [ inl p ↦ absurd (cc) | inr p ↦ (let q = p.1 in absurd (cc)) ]

chosen_whole : (b : Bool) (x : Shape) (k : Int) → chosen b x ≡ s.Integer k → (b ≡ true) × (x ≡ s.Integer k)
chosen_whole true x k e = (refl, e)
chosen_whole false x k e = absurd (cc)

chosen_address : (b : Bool) (x : Shape) → is_pointer (chosen b x) ≡ true → (b ≡ true) × (is_pointer x ≡ true)
chosen_address true x e = (refl, e)
chosen_address false x e = absurd (cc)

pub has_whole : (structs : List StructDef) (e : CoreExpr) (k : Int) → value structs e ≡ s.Integer k → Has e (Whole k)
has_whole structs e k h =
    let c = chosen_whole (is_done e) (shape structs (type_of e)) k h in
    let o = shape_whole structs (out-CType (type_of e)) k c.1 in
    record { form = done_form e (out-CType (type_of e)) (Whole k) c.0 o (inr (k, refl)); of = o }

pub has_address : (structs : List StructDef) (e : CoreExpr) → is_pointer (value structs e) ≡ true → Has e Address
has_address structs e h =
    let c = chosen_address (is_done e) (shape structs (type_of e)) h in
    let o = shape_address structs (out-CType (type_of e)) c.1 in
    record { form = done_form e (out-CType (type_of e)) Address c.0 o (inl refl); of = o }

-- a scalar value
abbrev pub IsScalar : Sort → Type 0
IsScalar st = (st ≡ Address) ⊎ ((k : Int) × (st ≡ Whole k))

has_shape : (structs : List StructDef) (e : CoreExpr) (x : Shape) → value structs e ≡ x → is_scalar x ≡ true → (st : Sort) × IsScalar st × Has e st
has_shape structs e (s.Integer k) h p = (Whole k, inr (k, refl), has_whole structs e k h)
has_shape structs e (s.Object n) h p = (Address, inl refl, has_address structs e (ap is_pointer h))
has_shape structs e s.Incomplete h p = (Address, inl refl, has_address structs e (ap is_pointer h))
has_shape structs e s.Callable h p = (Address, inl refl, has_address structs e (ap is_pointer h))
has_shape structs e s.Void h p = absurd (cc)
has_shape structs e (s.Structure i) h p = absurd (cc)
has_shape structs e s.Other h p = absurd (cc)

pub has_scalar : (structs : List StructDef) (e : CoreExpr) → is_scalar (value structs e) ≡ true → (st : Sort) × IsScalar st × Has e st
has_scalar structs e p = has_shape structs e (value structs e) refl p

-- what is done, and has a type alike
pub has_done : (e : CoreExpr) (st : Sort) → is_done e ≡ true → sort_of (type_of e) ≡ st → IsScalar st → Has e st
has_done e st d o h = record { form = done_form e (out-CType (type_of e)) st d o h; of = o }
