-- Yardstick: to be compared with what it restates (docs/TRUST.md).
-- The conditional operator (ANSI 3.3.15).
use Rattle.std.specs.Prelude.{ℕ, ◌==◌, Bool, true, false, ◌&&◌, ◌||◌, if◌then◌else◌, List, Option, Some, None, Ok}
use Rattle.sc_base.specs.declared.integer.Int.{Int}
use Rattle.sc_types.specs.declared.ctype.CType.{CType, out-CType}
use Rattle.sc_types.specs.declared.ctype.CType.TheVariants as t
use Rattle.sc_types.specs.declared.ctype.CType.TheOpen.{CType-F}
use Rattle.sc_types.specs.declared.ctype.StructDef.{StructDef}
use Rattle.sc_types.specs.Conversions.{usual}
use Rattle.sc_core.specs.declared.expression.CoreExpr.{CoreExpr}
use Rattle.sc_core.specs.declared.expression.CoreExpr.TheVariants as c
use Rattle.sc_core.specs.Types.{type_of}
use Rattle.sc_check_operand.specs.declared.shape.Shape.{Shape}
use Rattle.sc_check_operand.specs.declared.shape.Shape.TheVariants as s
use Rattle.sc_check_binary.specs.declared.choice.Choice.{Choice}
use Rattle.sc_check_binary.specs.declared.choice.Choice.TheVariants as choice
use Rattle.sc_check_operand.specs.Steps.{Checked, mismatch}
use Rattle.sc_check_operand.specs.Types.{Level, shape, is_pointer, is_scalar, is_void, is_const, plain, requalified}
use Rattle.sc_check_operand.specs.Constants.{is_null}
use Rattle.sc_check_operand.specs.Operands.{valued, to_int, to_type}
use Rattle.sc_check_operand.specs.Agreement.{joins}
use Rattle.sc_check_operand.specs.Composite.{composite}

abbrev pub qualified_composite : Bool → CType → CType → CType
qualified_composite q x y = requalified q (composite x y)

abbrev pub composite_target : Bool → CType → CType → CType
composite_target q x y = qualified_composite q (plain x) (plain y)

-- What a pointer to either points to: `void` where one of them is, else the composite; with the qualifiers of both.
abbrev pub common_target : CType → CType → CType
common_target x y = if is_void x || is_void y then t.Void (is_const x || is_const y) else composite_target (is_const x || is_const y) x y

abbrev pub common_pointer : CType → CType → Option CType
common_pointer x y = Some (t.Pointer (common_target x y) false)

abbrev pub joined : List StructDef → CType → CType → Option CType
joined structs x y = if joins structs x y then common_pointer x y else None

abbrev pub common_level : List StructDef → Level → Level → Option CType
common_level structs (CType-F.Pointer x d) (CType-F.Pointer y e) = joined structs x y
common_level structs _ _ = None

abbrev pub where_null : Bool → CType → Option CType
where_null true of = Some of
where_null false of = None

abbrev pub pointers : List StructDef → CoreExpr → CoreExpr → Option CType
pointers structs a b =
    if is_null a then Some (type_of b)
    else if is_null b then Some (type_of a)
    else common_level structs (out-CType (type_of a)) (out-CType (type_of b))

-- the common type of two pointers that go together, or of a pointer and a null constant
abbrev pub common_by : List StructDef → Shape → Shape → CoreExpr → CoreExpr → Option CType
common_by structs (s.Integer j) y a b = if is_pointer y then where_null (is_null a) (type_of b) else None
common_by structs x (s.Integer k) a b = if is_pointer x then where_null (is_null b) (type_of a) else None
common_by structs x y a b = if is_pointer x && is_pointer y then pointers structs a b else None

abbrev pub pointer_choice : Option CType → Choice
pointer_choice (Some of) = choice.Pointers of
pointer_choice None = choice.Wrong

abbrev pub same_structure : ℕ → ℕ → Choice
same_structure i j = if i == j then choice.Structure i else choice.Wrong

abbrev pub choice_by : List StructDef → Shape → Shape → CoreExpr → CoreExpr → Choice
choice_by structs (s.Integer j) (s.Integer k) a b = choice.Integers (usual j k)
choice_by structs s.Void s.Void a b = choice.Nothing
choice_by structs (s.Structure i) (s.Structure j) a b = same_structure i j
choice_by structs x y a b = pointer_choice (common_by structs x y a b)

-- The second and third operands: integers, both `void`, one structure, or pointers that go together.
abbrev pub choice_of : List StructDef → CoreExpr → CoreExpr → Choice
choice_of structs a b = choice_by structs (shape structs (type_of a)) (shape structs (type_of b)) a b

abbrev pub chosen : ℕ → Choice → CoreExpr → CoreExpr → CoreExpr → Checked CoreExpr
chosen line (choice.Integers k) a b d = Ok (c.Conditional line (t.Int k false) a (to_int line k b) (to_int line k d))
chosen line choice.Nothing a b d = Ok (c.Conditional line (t.Void false) a b d)
chosen line (choice.Structure i) a b d = Ok (c.Conditional line (t.Struct i false) a b d)
chosen line (choice.Pointers of) a b d = Ok (c.Conditional line of a (to_type line of b) (to_type line of d))
chosen line choice.Wrong a b d = mismatch line

abbrev pub conditional_values : List StructDef → ℕ → CoreExpr → CoreExpr → CoreExpr → Checked CoreExpr
conditional_values structs line a b d = if is_scalar (shape structs (type_of a)) then chosen line (choice_of structs b d) a b d else mismatch line

abbrev pub conditional_rest : List StructDef → ℕ → CoreExpr → CoreExpr → CoreExpr → Checked CoreExpr
conditional_rest structs line a b d = conditional_values structs line a (valued line b) (valued line d)

-- `a ? b : d`
abbrev pub conditional : List StructDef → ℕ → CoreExpr → CoreExpr → CoreExpr → Checked CoreExpr
conditional structs line a b d = conditional_rest structs line (valued line a) b d
