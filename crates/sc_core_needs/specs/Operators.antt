-- Inside: plumbing, a representation, an invariant or a promise beside the claim (docs/TRUST.md).
-- What operators between operands ask of them (ANSI 3.3.5 to 3.3.17).
use Rattle.std.specs.Prelude.{ℕ, ◌==◌, Bool, true, false, not, ◌&&◌, ◌||◌, if◌then◌else◌, List}
use Rattle.sc_base.specs.declared.integer.Int.{Int}
use Rattle.sc_base.specs.declared.integer.Int.TheVariants as i
use Rattle.sc_base.specs.declared.operator.Op.{Op}
use Rattle.sc_base.specs.declared.operator.Op.TheVariants as op
use Rattle.sc_types.specs.declared.ctype.CType.{CType, out-CType}
use Rattle.sc_types.specs.declared.ctype.StructDef.{StructDef}
use Rattle.sc_types.specs.Compatibility.{same_int}
use Rattle.sc_types.specs.Conversions.{promote, usual}
use Rattle.sc_types.specs.Layouts.{size_in}
use Rattle.sc_types.specs.Tables.{is_object}
use Rattle.sc_core.specs.declared.expression.CoreExpr.{CoreExpr}
use Rattle.sc_core.specs.Types.{type_of}
use Rattle.sc_check_operand.specs.declared.shape.Shape.{Shape}
use Rattle.sc_check_operand.specs.declared.shape.Shape.TheVariants as s
use Rattle.sc_check_operand.specs.Types.{shape, is_const, is_pointer, is_scalar}
use Rattle.sc_check_operand.specs.Constants.{is_null}
use Rattle.sc_core_needs.specs.declared.operators.Kind.{Kind}
use Rattle.sc_core_needs.specs.declared.operators.Kind.TheVariants as kind
use Rattle.sc_core_needs.specs.Types.{is_plain_of, is_given_as, targets_alike, targets_join, is_promoted, is_int_of}
use Rattle.sc_core_needs.specs.Values.{is_done, value, is_condition, is_promoted_value, is_value_for}
use Rattle.sc_core_needs.specs.Nodes.{writes}

-- the operators with one rule each
abbrev pub kind_of : Op → Kind
kind_of op.Add = kind.Arithmetic
kind_of op.Sub = kind.Arithmetic
kind_of op.Mul = kind.Arithmetic
kind_of op.Div = kind.Arithmetic
kind_of op.Rem = kind.Arithmetic
kind_of op.And = kind.Arithmetic
kind_of op.Or = kind.Arithmetic
kind_of op.Xor = kind.Arithmetic
kind_of op.Shl = kind.Shift
kind_of op.Shr = kind.Shift
kind_of op.Lt = kind.Order
kind_of op.Gt = kind.Order
kind_of op.Le = kind.Order
kind_of op.Ge = kind.Order
kind_of op.Eq = kind.Equality
kind_of op.Ne = kind.Equality
kind_of op.Neg = kind.Single
kind_of op.Not = kind.Single
kind_of op.Truth = kind.Single
kind_of op.Inc = kind.Single
kind_of op.Dec = kind.Single

-- Both operands have one promoted type, which is the result's too unless they are compared; of a shift each has its own.
abbrev pub binary_by : Kind → CType → Int → Int → Bool
binary_by kind.Arithmetic of j k = same_int j k && is_int_of j of
binary_by kind.Shift of j k = is_int_of j of
binary_by kind.Order of j k = same_int j k && is_int_of i.Int of
binary_by kind.Equality of j k = same_int j k && is_int_of i.Int of
binary_by kind.Single of j k = false

abbrev pub binary_shapes : Kind → CType → Shape → Shape → Bool
binary_shapes kind of (s.Integer j) (s.Integer k) = is_promoted j && is_promoted k && binary_by kind of j k
binary_shapes kind of _ _ = false

-- an operator on two integers (3.3.5 to 3.3.12)
abbrev pub is_binary : List StructDef → CType → Op → CoreExpr → CoreExpr → Bool
is_binary structs of o a b = binary_shapes (kind_of o) of (value structs a) (value structs b)

abbrev pub is_sum : Op → Bool
is_sum op.Add = true
is_sum op.Sub = true
is_sum _ = false

abbrev pub is_plus : Op → Bool
is_plus op.Add = true
is_plus _ = false

abbrev pub offset_by : List StructDef → CType → Op → ℕ → Shape → Shape → CType → CType → Bool
offset_by structs of o n (s.Object m) (s.Integer k) a b = is_sum o && n == m && is_plain_of structs of a
offset_by structs of o n (s.Integer k) (s.Object m) a b = is_plus o && n == m && is_plain_of structs of b
offset_by structs of o n _ _ a b = false

-- a pointer to objects of this size and an integer, of which the pointer is on the left with `-` (3.3.6)
abbrev pub is_offset : List StructDef → CType → Op → ℕ → CoreExpr → CoreExpr → Bool
is_offset structs of o n a b = offset_by structs of o n (value structs a) (value structs b) (type_of a) (type_of b)

abbrev pub difference_by : ℕ → Shape → Shape → Bool
difference_by n (s.Object m) (s.Object l) = n == m && n == l
difference_by n _ _ = false

-- two pointers to objects of one type, of this size (3.3.6)
abbrev pub is_difference : List StructDef → CType → ℕ → CoreExpr → CoreExpr → Bool
is_difference structs of n a b =
    is_int_of i.Int of && difference_by n (value structs a) (value structs b) && targets_alike structs (out-CType (type_of a)) (out-CType (type_of b))

abbrev pub is_object_pointer : Shape → Bool
is_object_pointer (s.Object n) = true
is_object_pointer s.Incomplete = true
is_object_pointer _ = false

abbrev pub compare_by : Kind → Shape → Shape → Bool → Bool → Bool
compare_by kind.Order a b alike joined = is_object_pointer a && is_object_pointer b && alike
compare_by kind.Equality a b alike joined = is_pointer a && is_pointer b && joined
compare_by kind.Arithmetic a b alike joined = false
compare_by kind.Shift a b alike joined = false
compare_by kind.Single a b alike joined = false

-- two pointers: to objects of one type, or for equality ones that go together, or a null pointer constant (3.3.8, 3.3.9)
abbrev pub is_compare : List StructDef → CType → Op → CoreExpr → CoreExpr → Bool
is_compare structs of o a b =
    is_int_of i.Int of
    && compare_by (kind_of o) (value structs a) (value structs b) (targets_alike structs (out-CType (type_of a)) (out-CType (type_of b)))
    (is_null a || is_null b || targets_join structs (out-CType (type_of a)) (out-CType (type_of b)))

-- `&&` and `||` on scalars (3.3.13, 3.3.14)
abbrev pub is_logical : List StructDef → CType → CoreExpr → CoreExpr → Bool
is_logical structs of a b = is_int_of i.Int of && is_condition structs a && is_condition structs b

abbrev pub choice_of : Shape → Bool
choice_of (s.Integer k) = is_promoted k
choice_of s.Void = true
choice_of (s.Structure id) = true
choice_of shape = is_pointer shape

-- a scalar, and two values of the result's type (3.3.15)
abbrev pub is_choice : List StructDef → CType → CoreExpr → CoreExpr → CoreExpr → Bool
is_choice structs of a b d =
    is_condition structs a && not (is_const of) && choice_of (shape structs of) && is_value_for structs of b && is_value_for structs of d

-- `=` on scalars: a place, and a value of its type (3.3.16.1)
abbrev pub is_assignment : List StructDef → CType → CoreExpr → CoreExpr → Bool
is_assignment structs of a b = writes structs of a && is_scalar (shape structs of) && is_value_for structs (type_of a) b

abbrev pub is_structure : Shape → Bool
is_structure (s.Structure id) = true
is_structure _ = false

-- `=` on structures of this size (3.3.16.1)
abbrev pub is_copy : List StructDef → CType → ℕ → CoreExpr → CoreExpr → Bool
is_copy structs of n a b =
    writes structs of a && is_structure (shape structs of) && is_object structs of && size_in structs of == n && is_value_for structs (type_of a) b

abbrev pub compound_by : Kind → Int → Int → Int → Bool
compound_by kind.Arithmetic k j m = same_int k m && is_promoted m && same_int (usual j m) k
compound_by kind.Shift k j m = same_int (promote j) k && is_promoted m
compound_by kind.Order k j m = false
compound_by kind.Equality k j m = false
compound_by kind.Single k j m = false

abbrev pub compound_shapes : Kind → Int → Shape → Shape → Bool
compound_shapes kind k (s.Integer j) (s.Integer m) = compound_by kind k j m
compound_shapes kind k _ _ = false

-- A compound assignment on integers works in the common type of place and value, which the value has; a shift in the promoted type
-- of the place (3.3.16.2).
abbrev pub is_compound : List StructDef → CType → Op → Int → CoreExpr → CoreExpr → Bool
is_compound structs of o k a b = writes structs of a && compound_shapes (kind_of o) k (shape structs (type_of a)) (value structs b)

abbrev pub moved_by : Op → ℕ → Shape → Shape → Bool
moved_by o n (s.Object m) (s.Integer k) = is_sum o && n == m
moved_by o n _ _ = false

-- `+=` and `-=` on a pointer to objects of this size (3.3.16.2)
abbrev pub is_movement : List StructDef → CType → Op → ℕ → CoreExpr → CoreExpr → Bool
is_movement structs of o n a b = writes structs of a && moved_by o n (shape structs (type_of a)) (value structs b)

-- `a, b` (3.3.17)
abbrev pub is_sequence : List StructDef → CType → CoreExpr → CoreExpr → Bool
is_sequence structs of a b = is_done a && is_done b && is_given_as structs of (type_of b)
