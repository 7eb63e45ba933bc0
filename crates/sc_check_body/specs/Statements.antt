-- Yardstick: to be compared with what it restates (docs/TRUST.md).
-- The expressions of statements (ANSI 3.6).
use Rattle.std.specs.Prelude.{ℕ, false, if◌then◌else◌, List, Option, Some, None, Ok}
use Rattle.sc_base.specs.declared.integer.Int.{Int}
use Rattle.sc_types.specs.declared.ctype.CType.{CType}
use Rattle.sc_types.specs.declared.ctype.StructDef.{StructDef}
use Rattle.sc_types.specs.Conversions.{promote}
use Rattle.sc_core.specs.declared.expression.CoreExpr.{CoreExpr}
use Rattle.sc_core.specs.Types.{type_of}
use Rattle.sc_check_operand.specs.declared.shape.Shape.{Shape}
use Rattle.sc_check_operand.specs.declared.shape.Shape.TheVariants as has
use Rattle.sc_check_operand.specs.Types.{shape, is_scalar, is_void}
use Rattle.sc_check_operand.specs.Operands.{valued, to_int}
use Rattle.sc_check_operand.specs.Agreement.{assigned}
use Rattle.sc_check_scope.specs.declared.state.State.{State}
use Rattle.sc_check_expr.specs.Typed.{Node}
use Rattle.sc_check_body.specs.Faults.{Checked, and_then, keep, within, typing, rule}

-- what is asked of, and may change, what is in scope
abbrev pub Checking : Type 0 → Type 0
Checking A = State → Checked (A × State)

-- the value of a full expression (3.6)
abbrev pub value : Node → Checking CoreExpr
value e s = and_then (within (e.typed false s)) (λ r. Ok (valued e.line r.0, r.1))

abbrev pub scalar : ℕ → List StructDef → CoreExpr → Checked CoreExpr
scalar line structs a = if is_scalar (shape structs (type_of a)) then Ok a else rule line

-- A controlling expression is a scalar.
abbrev pub condition : Node → Checking CoreExpr
condition e s = and_then (value e s) (λ r. keep r.1 (scalar e.line r.1.structs r.0))

abbrev pub promoted_by : Shape → Option Int
promoted_by (has.Integer k) = Some (promote k)
promoted_by _ = None

abbrev pub promoted : List StructDef → CoreExpr → Option Int
promoted structs a = promoted_by (shape structs (type_of a))

abbrev pub selected : ℕ → CoreExpr → Option Int → Checked (CoreExpr × Int)
selected line a (Some k) = Ok (to_int line k a, k)
selected line a None = rule line

-- That of a `switch` is an integer, and has its promoted type (3.6.4.2).
abbrev pub selector : Node → Checking (CoreExpr × Int)
selector e s = and_then (value e s) (λ r. keep r.1 (selected e.line r.0 (promoted r.1.structs r.0)))

abbrev pub returned_by : ℕ → CType → List StructDef → CoreExpr → Checked CoreExpr
returned_by line gives structs a = if is_void gives then rule line else typing (assigned structs line gives a)

-- The value of a `return` is taken as by an assignment to the function's result (3.6.6.4).
abbrev pub returned : ℕ → CType → Node → Checking CoreExpr
returned line gives e s = and_then (within (e.typed false s)) (λ r. keep r.1 (returned_by line gives r.1.structs r.0))

abbrev pub optional : {A B : Type 0} → (A → Checking B) → Option A → Checking (Option B)
optional f None s = Ok (None, s)
optional f (Some a) s = and_then (f a s) (λ r. Ok (Some r.0, r.1))
