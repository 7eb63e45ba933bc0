-- Formed expressions: what the constructs ask of their operands, and what operators give.
use Rattle.std.specs.Prelude.{⊤, ◌&&◌}
use Rattle.std.proofs.Common.{◌≡◌, ◌⊎◌, inl, inr, ℕ, ◌==◌, Bool, true, false, not, if◌then◌else◌, List, Option, Some, None, pos, ◌-ℤ◌, int_div, refl, sym, ap, ◌∙◌, subst, arith}
use Rattle.std.proofs.lemmas.Bool.Decides.{nat_tests}
use Rattle.sc_base.specs.declared.integer.Int.{Int}
use Rattle.sc_base.specs.declared.integer.Int.TheVariants as i
use Rattle.sc_base.specs.declared.key.Key.{Key}
use Rattle.sc_base.specs.declared.operator.Op.{Op}
use Rattle.sc_base.specs.declared.operator.Op.TheVariants as op
use Rattle.sc_types.specs.declared.ctype.CType.{CType, out-CType}
use Rattle.sc_types.specs.declared.ctype.CType.TheOpen.{CType-F}
use Rattle.sc_types.specs.declared.ctype.StructDef.{StructDef}
use Rattle.sc_core.specs.declared.expression.CoreExpr.{CoreExpr, out-CoreExpr, map-CoreExpr, fold_out-CoreExpr}
use Rattle.sc_core.specs.declared.expression.Step.{Step}
use Rattle.sc_core.specs.declared.expression.Step.TheVariants.{IncrementFirst, DecrementFirst, IncrementAfter, DecrementAfter}
use Rattle.sc_core.specs.declared.expression.UnaryOperator.{UnaryOperator}
use Rattle.sc_core.specs.declared.expression.UnaryOperator.TheVariants as single
use Rattle.sc_core.specs.declared.module.Auto.{Auto}
use Rattle.sc_core.specs.declared.module.Core.{Core}
use Rattle.sc_core.specs.Types.{type_of}
use Rattle.sc_check_operand.specs.declared.shape.Shape.{Shape}
use Rattle.sc_check_operand.specs.declared.shape.Shape.TheVariants as s
use Rattle.sc_check_operand.specs.Types.{Level, shape, shape_layer, target_shape, object_size, is_pointer, is_scalar}
use Rattle.sc_core_needs.specs.Types.{is_promoted, is_int_of, is_plain_of}
use Rattle.sc_core_needs.specs.Values.{value}
use Rattle.sc_core_needs.specs.Nodes as nodes
use Rattle.sc_core_needs.specs.Operators as operators
use Rattle.sc_core_formed.specs.Expressions as expressions
use Rattle.sc_core_formed.specs.Expressions.{deep, node, expression, expression_level}
use Rattle.sc_ops.specs.Numbers.{converted, bits_of}
use Rattle.sc_ops.specs.Operators.{truth_of}
use Rattle.sc_meaning.specs.Values.{Value, Number, int_of, is_pointer_type}
use Rattle.sc_meaning.specs.World.{World}
use Rattle.sc_meaning.specs.Outcomes.{Outcome, Done, and_then, operand_breach}
use Rattle.sc_meaning.specs.Violations.{offset_of, difference_rule}
use Rattle.sc_meaning.specs.Accesses.{as_type, converted_value, compare_rule, pointer_test, computed, stored, loaded, shifted, difference, compared, tested}
use Rattle.sc_meaning.specs.Expressions.{Answer, Plain, Place, Part, Nothing, plain, part_of, static_at, base_of, further_of, either, compounded, stepped, next_value, operator_of, old_or_new}
use Rattle.sc_compiled_frames.specs.Kept.{Ends}
use Rattle.sc_compiled_frames.proofs.Steps.{ends_then}
use Rattle.sc_compiled_values.specs.Fits.{Sort, Whole, Address, Placed, sort, sort_of, IsBits, IsOf, IsPlace, OfSort}
use Rattle.sc_compiled_values.proofs.Types.{both, three, Has, IsScalar, has_whole, has_address, shape_whole, shape_address}
use Rattle.sc_compiled_values.proofs.Bits.{constant_range}
use Rattle.sc_compiled_values.proofs.Loading.{any_ends, unless_ends, loaded_of, is_address_type, no_address_type}
use Rattle.sc_compiled_values.proofs.Fitting.{plain_sort, plain_fits, stored_fits, computed_typed, int_sort, binary_sort}

module _ (core : Core) (blocks : List (List Auto)) (around : List ℕ) where
  abbrev pub test : CoreExpr → CoreExpr → Bool
  test = expressions.test_of core blocks around

  abbrev pub IsFormed : CoreExpr → Type 0
  IsFormed e = expression core blocks around e ≡ true

  pub expression_step : (e : CoreExpr) → IsFormed e → (deep (map-CoreExpr CoreExpr (CoreExpr → Bool) test (out-CoreExpr e)) (out-CoreExpr e) ≡ true) × (node core blocks around e ≡ true)
  expression_step e p =
      both (deep (map-CoreExpr CoreExpr (CoreExpr → Bool) test (out-CoreExpr e)) (out-CoreExpr e)) (node core blocks around e)
      (sym (ap (λ (t : CoreExpr → Bool). t e) (fold_out-CoreExpr (CoreExpr → Bool) (expression_level core blocks around) e)) ∙ p)

  two_formed : (a b : CoreExpr) → (test a a && test b b) ≡ true → IsFormed a × IsFormed b
  two_formed a b p = both (test a a) (test b b) p

-- a number of an integer type
same_number : (a b : ℕ) → (a == b) ≡ true → a ≡ b
same_number a b e = grind (arith, nat_tests)

pub number_fits : (l : Level) (n : ℕ) → nodes.number_level l n ≡ true → OfSort (sort l) (Plain (Number n))
number_fits (CType-F.Int k c) n e = constant_range k n (same_number (converted n k) n (both (not c) (converted n k == n) e).1)
number_fits (CType-F.Void c) n e = absurd (cc)
number_fits (CType-F.Pointer t c) n e = absurd (cc)
number_fits (CType-F.Array t m) n e = absurd (cc)
number_fits (CType-F.Struct x c) n e = absurd (cc)
number_fits (CType-F.Function f) n e = absurd (cc)

pub static_fits : (key : Key) (o : Option ℕ) (w : World) → Ends (λ a v. IsPlace a) (static_at key o w)
static_fits key None w = tt
static_fits key (Some o) w = tt

pub part_fits : (a : Answer) (n : ℕ) → IsPlace a → IsPlace (part_of a n)
part_fits (Plain v) n h = absurd h
part_fits (Place p) n h = tt
part_fits (Part p m) n h = tt
part_fits Nothing n h = absurd h

-- the operands of `a[b]` and of a pointer and an integer
pub record PointerAndInteger (a b : CoreExpr) : Type 0 where
  pub left : Has a Address
  pub int : Int
  pub right : Has b (Whole int)

pub offset_of_both : (structs : List StructDef) (t : CType) (o : Op) (n : ℕ) (a b : CoreExpr) (x y : Shape) → value structs a ≡ x → value structs b ≡ y → operators.offset_by structs t o n x y (type_of a) (type_of b) ≡ true
    → (PointerAndInteger a b × (sort_of t ≡ Address)) ⊎ (PointerAndInteger b a × (sort_of t ≡ Address))
offset_of_both structs t o n a b (s.Object m) (s.Integer k) p q e =
    let r = three (operators.is_sum o) (n == m) (is_plain_of structs t (type_of a)) e in
    let left = has_address structs a (ap is_pointer p) in
    inl (record { left = left; int = k; right = has_whole structs b k q }, plain_sort structs t (type_of a) r.2 ∙ left.of)
offset_of_both structs t o n a b (s.Integer k) (s.Object m) p q e =
    let r = three (operators.is_plus o) (n == m) (is_plain_of structs t (type_of b)) e in
    let left = has_address structs b (ap is_pointer q) in
    inr (record { left = left; int = k; right = has_whole structs a k p }, plain_sort structs t (type_of b) r.2 ∙ left.of)
offset_of_both structs t o n a b _ _ p q e = absurd (cc)

pub record TwoIntegers (o : Op) (t : CType) (a b : CoreExpr) : Type 0 where
  pub one : Int
  pub left : Has a (Whole one)
  pub other : Int
  pub right : Has b (Whole other)
  pub result : Int
  pub wide : is_promoted result ≡ true
  pub sorted : sort_of t ≡ Whole result

pub binary_of : (structs : List StructDef) (o : Op) (t : CType) (a b : CoreExpr) (x y : Shape) → value structs a ≡ x → value structs b ≡ y → operators.binary_shapes (operators.kind_of o) t x y ≡ true → TwoIntegers o t a b
binary_of structs o t a b (s.Integer j) (s.Integer k) p q e =
    let r = three (is_promoted j) (is_promoted k) (operators.binary_by (operators.kind_of o) t j k) e in
    let u = binary_sort o t j k r.2 r.0 in
    record { one = j; left = has_whole structs a j p; other = k; right = has_whole structs b k q; result = u.0; wide = u.1; sorted = u.2 }
binary_of structs o t a b _ _ p q e = absurd (cc)

pub member_sort : (structs : List StructDef) (t : CType) (n : ℕ) (l : Level) → nodes.member_level structs t n l ≡ true → sort l ≡ Placed
member_sort structs t n (CType-F.Struct x c) e = refl
member_sort structs t n (CType-F.Void c) e = absurd (cc)
member_sort structs t n (CType-F.Int k c) e = absurd (cc)
member_sort structs t n (CType-F.Pointer x c) e = absurd (cc)
member_sort structs t n (CType-F.Array x m) e = absurd (cc)
member_sort structs t n (CType-F.Function f) e = absurd (cc)

pub pointed_sort : (structs : List StructDef) (t : CType) (n : ℕ) (l : Level) → nodes.pointed_level structs t n l ≡ true → sort l ≡ Address
pointed_sort structs t n (CType-F.Pointer x c) e = refl
pointed_sort structs t n (CType-F.Void c) e = absurd (cc)
pointed_sort structs t n (CType-F.Int k c) e = absurd (cc)
pointed_sort structs t n (CType-F.Struct x c) e = absurd (cc)
pointed_sort structs t n (CType-F.Array x m) e = absurd (cc)
pointed_sort structs t n (CType-F.Function f) e = absurd (cc)

pub either_ends : {A : Type 0} (P : A → World → Type 0) (b : Bool) (f g : World → Outcome A) (w : World) → Ends P (f w) → Ends P (g w) → Ends P (either b f g w)
either_ends P true f g w p q = p
either_ends P false f g w p q = q

-- what follows, whatever the result
pub then_ends : {A B : Type 0} (Q : B → World → Type 0) (r : Outcome A) (f : A → World → Outcome B) → ((a : A) (v : World) → Ends Q (f a v)) → Ends Q (and_then r f)
then_ends Q r f q = ends_then (λ a v. ⊤) Q r f (any_ends r) (λ a v h. q a v)

-- a pointer's value
pub address_ends : (t : CType) (r : Outcome Value) → sort_of t ≡ Address → Ends (λ a v. OfSort (sort_of t) a) (and_then r plain)
address_ends t r e = plain_fits t Address r e (inl refl) (any_ends r)

pub compounded_fits : (r : Int) (o : Op) (k : Int) (t u : CType) (a : Answer) (y : Value) (w : World) → sort_of t ≡ Whole r → Ends (λ v u. IsBits r v) (compounded o k t u a y w)
compounded_fits r o k t u a y w g =
    then_ends (λ v u. IsBits r v) (loaded t (base_of a) (further_of a) w) _ (λ old v.
    ends_then (λ n z. IsBits r (as_type t n)) (λ v u. IsBits r v) (computed o k (converted_value k old) (int_of u) y v) _ (computed_typed t r o k (converted_value k old) (int_of u) y v g) (λ new z h.
    stored_fits (IsBits r) t (base_of a) (further_of a) (as_type t new) z h))

old_or_new_of : (st : Sort) (how : Step) (old new : Value) → IsOf st old → IsOf st new → IsOf st (old_or_new how old new)
old_or_new_of st IncrementFirst old new p q = q
old_or_new_of st DecrementFirst old new p q = q
old_or_new_of st IncrementAfter old new p q = p
old_or_new_of st DecrementAfter old new p q = p

next_if : (b : Bool) (o : Op) (n : ℕ) (t : CType) (v : Value) (w : World) (st : Sort) → (b ≡ true → st ≡ Address) → (b ≡ false → (r : Int) × (sort_of t ≡ Whole r) × (st ≡ Whole r)) → Ends (λ x u. IsOf st x) (if b then shifted true o v i.Int (Number 1) n w else and_then (computed o (int_of t) v i.Int (Number 1) w) (λ n w. Done (as_type t n) w))
next_if true o n t v w st p q = subst (λ (z : Sort). Ends (λ x u. IsOf z x) (shifted true o v i.Int (Number 1) n w)) (sym (p refl)) (any_ends (shifted true o v i.Int (Number 1) n w))
next_if false o n t v w st p q =
    let k = q refl in
    subst (λ (z : Sort). Ends (λ x u. IsOf z x) (and_then (computed o (int_of t) v i.Int (Number 1) w) (λ n w. Done (as_type t n) w))) (sym k.2)
    (ends_then (λ n z. IsBits k.0 (as_type t n)) (λ x u. IsBits k.0 x) (computed o (int_of t) v i.Int (Number 1) w) (λ n w. Done (as_type t n) w) (computed_typed t k.0 o (int_of t) v i.Int (Number 1) w k.1) (λ n z h. h))

next_fits : (st : Sort) (o : Op) (n : ℕ) (t : CType) (v : Value) (w : World) → sort_of t ≡ st → IsScalar st → Ends (λ x u. IsOf st x) (next_value o n t v w)
next_fits st o n t v w g k =
    elim k [
      | inl e ↦ next_if (is_pointer_type t) o n t v w st (λ b. e) (λ b. (let c = is_address_type t (g ∙ e) in absurd (cc)))
      | inr e ↦ next_if (is_pointer_type t) o n t v w st (λ b. (let c = no_address_type t e.0 (g ∙ e.1) in absurd (cc))) (λ b. (e.0, g ∙ e.1, e.1))
    ]

pub stepped_fits : (st : Sort) (how : Step) (n : ℕ) (t : CType) (a : Answer) (w : World) → sort_of t ≡ st → IsScalar st → Ends (λ x u. IsOf st x) (stepped how n t a w)
stepped_fits st how n t a w g k =
    ends_then (λ v u. IsOf st v) (λ v u. IsOf st v) (loaded t (base_of a) (further_of a) w) _ (loaded_of t st (base_of a) (further_of a) w g k) (λ old u h.
    ends_then (λ v u. IsOf st v) (λ v u. IsOf st v) (next_value (operator_of how) n t old u) _ (next_fits st (operator_of how) n t old u g k) (λ new v q.
    ends_then (λ v u. IsOf st v) (λ v u. IsOf st v) (stored t (base_of a) (further_of a) new v) _ (stored_fits (IsOf st) t (base_of a) (further_of a) new v q) (λ x y z. old_or_new_of st how old x h z)))

pub difference_fits : (x y : Value) (n : ℕ) (w : World) → Ends (λ v u. IsBits i.Int v) (difference x y n w)
difference_fits x y n w = unless_ends (λ v u. IsBits i.Int v) (difference_rule w.objects x y n) (operand_breach op.Sub i.UInt x i.UInt y w) (λ w. Done (Number (bits_of (int_div (pos (offset_of x) -ℤ pos (offset_of y)) (pos n)))) w) w (λ e. tt)

pub compared_fits : (o : Op) (x y : Value) (w : World) → Ends (λ v u. IsBits i.Int v) (compared o x y w)
compared_fits o x y w = unless_ends (λ v u. IsBits i.Int v) (compare_rule o w x y) (operand_breach o i.UInt x i.UInt y w) (λ w. Done (Number (truth_of (pointer_test o x y))) w) w (λ e. tt)

-- `+ - ~` on an integer
abbrev integer_only : CType → Shape → Bool
integer_only t (s.Integer k) = is_int_of k t && is_promoted k
integer_only t _ = false

same_single : (t : CType) (o : UnaryOperator) (x : Shape) → (o ≡ single.Not → ⊥) → nodes.unary_by t o x ≡ integer_only t x
same_single t single.Not x n = absurd (n refl)
same_single t single.Plus (s.Integer k) n = refl
same_single t single.Plus (s.Object k) n = refl
same_single t single.Plus s.Incomplete n = refl
same_single t single.Plus s.Callable n = refl
same_single t single.Plus s.Void n = refl
same_single t single.Plus (s.Structure k) n = refl
same_single t single.Plus s.Other n = refl
same_single t single.Minus (s.Integer k) n = refl
same_single t single.Minus (s.Object k) n = refl
same_single t single.Minus s.Incomplete n = refl
same_single t single.Minus s.Callable n = refl
same_single t single.Minus s.Void n = refl
same_single t single.Minus (s.Structure k) n = refl
same_single t single.Minus s.Other n = refl
same_single t single.Complement (s.Integer k) n = refl
same_single t single.Complement (s.Object k) n = refl
same_single t single.Complement s.Incomplete n = refl
same_single t single.Complement s.Callable n = refl
same_single t single.Complement s.Void n = refl
same_single t single.Complement (s.Structure k) n = refl
same_single t single.Complement s.Other n = refl

pub record OneInteger (t : CType) (a : CoreExpr) : Type 0 where
  pub int : Int
  pub operand : Has a (Whole int)
  pub wide : is_promoted int ≡ true
  pub sorted : sort_of t ≡ Whole int

one_integer : (structs : List StructDef) (t : CType) (a : CoreExpr) (x : Shape) → value structs a ≡ x → integer_only t x ≡ true → OneInteger t a
one_integer structs t a (s.Integer k) p e = let r = both (is_int_of k t) (is_promoted k) e in record { int = k; operand = has_whole structs a k p; wide = r.1; sorted = int_sort k t r.0 }
one_integer structs t a (s.Object k) p e = absurd (cc)
one_integer structs t a s.Incomplete p e = absurd (cc)
one_integer structs t a s.Callable p e = absurd (cc)
one_integer structs t a s.Void p e = absurd (cc)
one_integer structs t a (s.Structure k) p e = absurd (cc)
one_integer structs t a s.Other p e = absurd (cc)

pub single_integer : (structs : List StructDef) (t : CType) (o : UnaryOperator) (a : CoreExpr) → (o ≡ single.Not → ⊥) → nodes.is_unary structs t o a ≡ true → OneInteger t a
single_integer structs t o a n e = one_integer structs t a (value structs a) refl (sym (same_single t o (value structs a) n) ∙ e)

pub not_fits : (t : CType) (v : Value) (w : World) → Ends (λ x u. IsBits i.Int x) (and_then (tested t v w) (λ yes w. Done (Number (truth_of (not yes))) w))
not_fits t v w = then_ends (λ x u. IsBits i.Int x) (tested t v w) (λ yes w. Done (Number (truth_of (not yes))) w) (λ yes u. tt)

-- the operands' types of what steps, moves and compounds
pub step_scalar : (structs : List StructDef) (t : CType) (n : ℕ) (x : Shape) → shape structs t ≡ x → nodes.step_of n x ≡ true → is_scalar (shape structs t) ≡ true
step_scalar structs t n (s.Integer k) p e = ap is_scalar p
step_scalar structs t n (s.Object m) p e = ap is_scalar p
step_scalar structs t n s.Incomplete p e = absurd (cc)
step_scalar structs t n s.Callable p e = absurd (cc)
step_scalar structs t n s.Void p e = absurd (cc)
step_scalar structs t n (s.Structure k) p e = absurd (cc)
step_scalar structs t n s.Other p e = absurd (cc)

pub record IntegerAndValue (structs : List StructDef) (t : CType) (b : CoreExpr) : Type 0 where
  pub int : Int
  pub place : sort_of t ≡ Whole int
  pub other : Int
  pub value : Has b (Whole other)

pub compound_of : (structs : List StructDef) (o : Op) (k : Int) (t : CType) (b : CoreExpr) (x y : Shape) → shape structs t ≡ x → value structs b ≡ y → operators.compound_shapes (operators.kind_of o) k x y ≡ true → IntegerAndValue structs t b
compound_of structs o k t b (s.Integer j) (s.Integer m) p q e = record { int = j; place = shape_whole structs (out-CType t) j p; other = m; value = has_whole structs b m q }
compound_of structs o k t b _ _ p q e = absurd (cc)

pub movement_of : (structs : List StructDef) (o : Op) (n : ℕ) (t : CType) (b : CoreExpr) (x y : Shape) → shape structs t ≡ x → value structs b ≡ y → operators.moved_by o n x y ≡ true → (sort_of t ≡ Address) × ((k : Int) × Has b (Whole k))
movement_of structs o n t b (s.Object m) (s.Integer k) p q e = (shape_address structs (out-CType t) (ap is_pointer p), (k, has_whole structs b k q))
movement_of structs o n t b _ _ p q e = absurd (cc)

pub structure_sort : (structs : List StructDef) (l : Level) → operators.is_structure (shape_layer structs l) ≡ true → sort l ≡ Placed
structure_sort structs (CType-F.Struct x c) e = refl
structure_sort structs (CType-F.Void c) e = absurd (cc)
structure_sort structs (CType-F.Int k c) e = absurd (cc)
structure_sort structs (CType-F.Pointer (t) c) e = absurd (no_structure (object_size structs t) (out-CType t) e)
  where
    no_structure : (n : Option ℕ) (l : Level) → operators.is_structure (target_shape n l) ≡ true → ⊥
    no_structure n (CType-F.Function f) e = absurd (cc)
    no_structure (Some n) (CType-F.Void c) e = absurd (cc)
    no_structure (Some n) (CType-F.Int k c) e = absurd (cc)
    no_structure (Some n) (CType-F.Pointer t c) e = absurd (cc)
    no_structure (Some n) (CType-F.Array t m) e = absurd (cc)
    no_structure (Some n) (CType-F.Struct x c) e = absurd (cc)
    no_structure None (CType-F.Void c) e = absurd (cc)
    no_structure None (CType-F.Int k c) e = absurd (cc)
    no_structure None (CType-F.Pointer t c) e = absurd (cc)
    no_structure None (CType-F.Array t m) e = absurd (cc)
    no_structure None (CType-F.Struct x c) e = absurd (cc)
structure_sort structs (CType-F.Array t n) e = absurd (cc)
structure_sort structs (CType-F.Function f) e = absurd (cc)
