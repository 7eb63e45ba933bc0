-- Yardstick: to be compared with what it restates (docs/TRUST.md).
-- What one expression gives its place (ANSI 3.5.7).
use Rattle.std.specs.Prelude.{◌≡◌, ℕ, Result, ◌-◌, nat_lt, Bool, true, false, ◌&&◌, if◌then◌else◌, List, [], ◌∷◌, ◌++◌, Option, Some, None, is_some, Ok, Err}
use Rattle.sc_types.specs.declared.ctype.CType.{CType, out-CType}
use Rattle.sc_types.specs.declared.ctype.CType.TheOpen.{CType-F}
use Rattle.sc_types.specs.declared.ctype.Signature.{Signature}
use Rattle.sc_types.specs.declared.ctype.StructDef.{StructDef}
use Rattle.sc_tree.specs.declared.expression.Expr.{Expr, out-Expr}
use Rattle.sc_tree.specs.declared.expression.TypeWord.{TypeWord}
use Rattle.sc_tree.specs.declared.expression.Derivation.{Derivation}
use Rattle.sc_tree.specs.declared.expression.TypeName.{TypeName}
use Rattle.sc_tree.specs.declared.expression.Parameter.{Parameter}
use Rattle.sc_tree.specs.declared.expression.Member.{Member}
use Rattle.sc_tree.specs.declared.expression.Declarator.{Declarator}
use Rattle.sc_tree.specs.declared.expression.Derivation.TheOpen.{Expr-F}
use Rattle.sc_core.specs.declared.expression.CoreExpr.{CoreExpr}
use Rattle.sc_core.specs.declared.statement.AutoInit.{AutoInit}
use Rattle.sc_core.specs.declared.statement.AutoInit.TheVariants as piece
use Rattle.sc_core.specs.Types.{type_of}
use Rattle.sc_check_operand.specs.declared.fault.Cause.TheVariants as cause
use Rattle.sc_check_operand.specs.Steps as operand
use Rattle.sc_check_operand.specs.Types.{plain, object_size}
use Rattle.sc_check_operand.specs.Constants.{integer_constant}
use Rattle.sc_check_operand.specs.Addresses.{address_constant}
use Rattle.sc_check_operand.specs.Agreement.{assigned}
use Rattle.sc_check_declare.specs.declared.failure.Reason.TheVariants as reason
use Rattle.sc_check_declare.specs.Outcomes.{Outcome, refuse, after}
use Rattle.sc_check_places.specs.declared.level.Place.{Place}
use Rattle.sc_check_places.specs.declared.text.Text.{Text}
use Rattle.sc_check_places.specs.Places.{takes}
use Rattle.sc_check_places.specs.Texts as texts
use Rattle.sc_check_scope.specs.declared.state.State.{State}
use Rattle.sc_check_scope.specs.declared.fault.CheckFault.{CheckFault}
use Rattle.sc_check_scope.specs.Steps.{Checked, Fails, and_then, keep, typing, declaring}
use Rattle.sc_check_expr.specs.Typed.{node}

-- what the code answers that changes its place alone, unless memory runs out
abbrev pub Gives : {S : Type 0} → Checked S → Result (Unit {0}) CheckFault → S → Type 0
Gives outcome (Ok u) new = outcome ≡ Ok new
Gives outcome (Err f) new = Fails outcome f

-- more elements behind others
abbrev pub behind : {A : Type 0} → List A → Checked (List A) → Checked (List A)
behind before r = and_then r (λ more. Ok (before ++ more))

-- a rule of initialisers fails in a construct of this line
abbrev pub misfit : {A : Type 0} → ℕ → Checked A
misfit line = declaring (refuse reason.Rule line)

abbrev pub no_constant : {A : Type 0} → ℕ → Checked A
no_constant line = typing (operand.refused cause.NotConstant line)

abbrev pub TypeLevel : Type 0
TypeLevel = CType-F CType Signature

abbrev pub constant_by : TypeLevel → ℕ → CoreExpr → operand.Checked (Unit {0})
constant_by (CType-F.Int k c) line v = operand.and_then (integer_constant line v) (λ n. Ok tt)
constant_by _ line v = operand.and_then (address_constant line v) (λ a. Ok tt)

-- a constant of the value's type (3.4): an integer constant expression, or an address constant
abbrev pub is_constant : ℕ → CoreExpr → operand.Checked (Unit {0})
is_constant line v = constant_by (out-CType (type_of v)) line v

abbrev pub allowed : Bool → ℕ → CoreExpr → operand.Checked (Unit {0})
allowed constant line v = if constant then is_constant line v else Ok tt

-- a scalar takes the value that an assignment takes, in its own type
abbrev pub scalar : List StructDef → Bool → ℕ → Place → CoreExpr → operand.Checked AutoInit
scalar structs constant line p e =
    operand.and_then (assigned structs line p.of e) (λ v. operand.and_then (allowed constant line v) (λ u. Ok (piece.Value p.at (plain p.of) v)))

abbrev pub structure_of : ℕ → Option ℕ → CoreExpr → operand.Checked AutoInit
structure_of line (Some size) v = Ok (piece.Structure size v)
structure_of line None v = operand.mismatch line

abbrev pub structure_piece : List StructDef → Bool → ℕ → CType → CoreExpr → operand.Checked AutoInit
structure_piece structs constant line of v =
    if constant then operand.refused cause.NotConstant line else structure_of line (object_size structs of) v

-- a whole structure takes another of its type, which is no constant
abbrev pub structure : List StructDef → Bool → ℕ → CType → CoreExpr → operand.Checked AutoInit
structure structs constant line of e = operand.and_then (assigned structs line of e) (λ v. structure_piece structs constant line of v)

abbrev pub value_by : TypeLevel → List StructDef → Bool → ℕ → Place → CoreExpr → operand.Checked AutoInit
value_by (CType-F.Struct id c) structs constant line p e = structure structs constant line p.of e
value_by _ structs constant line p e = scalar structs constant line p e

-- the piece of a place that takes a value
abbrev pub value_piece : List StructDef → Bool → ℕ → Place → CoreExpr → operand.Checked AutoInit
value_piece structs constant line p e = value_by (out-CType p.of) structs constant line p e

-- the bytes of a string from a place's beginning, and zero bytes up to its end
abbrev pub text_pieces : Place → Text → List AutoInit
text_pieces p t = piece.Text p.at t.bytes ∷ (if nat_lt 0 t.zeros then piece.Zero (p.end - t.zeros) t.zeros ∷ [] else [])

abbrev pub text : ℕ → ℕ → List ℕ → Place → List AutoInit → Outcome (ℕ × List AutoInit)
text line size bytes p pieces = after (texts.text line size bytes) (λ t. Ok (t.length, pieces ++ text_pieces p t))

abbrev pub ExprLevel : Type 0
ExprLevel = Expr-F Derivation Expr TypeWord Declarator Member Parameter TypeName

abbrev pub text_level : ExprLevel → Option (Option (List ℕ))
text_level (Expr-F.String l text) = Some text
text_level _ = None

-- the bytes of a string, where the expression is one; none where an escape is above 255
abbrev pub text_of : Expr → Option (Option (List ℕ))
text_of e = text_level (out-Expr e)

abbrev pub is_string : Expr → Bool
is_string e = is_some (text_of e)

abbrev pub string_by : ℕ → ℕ → Option (Option (List ℕ)) → Place → List AutoInit → Checked (ℕ × List AutoInit)
string_by line size (Some (Some bytes)) p pieces = declaring (text line size bytes p pieces)
string_by line size (Some None) p pieces = misfit line
string_by line size None p pieces = misfit line

abbrev pub string : ℕ → ℕ → Expr → Place → List AutoInit → Checked (ℕ × List AutoInit)
string line size e p pieces = string_by line size (text_of e) p pieces

abbrev pub beside : {A B : Type 0} → State → Checked (A × B) → Checked (A × (B × State))
beside s r = and_then r (λ x. Ok (x.0, (x.1, s)))

-- an expression for an array: a string, for one of characters
abbrev pub array : ℕ → ℕ → Expr → Place → List AutoInit × State → Checked (ℕ × (List AutoInit × State))
array line size e p w =
    if is_string e && takes true p.of then beside w.1 (string line size e p w.0)
    else and_then ((node e).typed false w.1) (λ r. misfit line)

abbrev pub single : Bool → ℕ → Expr → Place → State → Checked (AutoInit × State)
single constant line e p s = and_then ((node e).typed false s) (λ r. keep r.1 (typing (value_piece r.1.structs constant line p r.0)))

abbrev pub expression_by : TypeLevel → Bool → ℕ → Expr → Place → List AutoInit × State → Checked (ℕ × (List AutoInit × State))
expression_by (CType-F.Array u size) constant line e p w = array line size e p w
expression_by _ constant line e p w = and_then (single constant line e p w.1) (λ r. Ok (0, (w.0 ++ r.0 ∷ [], r.1)))

-- the pieces of a place that an expression gives, behind others, and the length that it gives an array without size
abbrev pub expression : Bool → ℕ → Expr → Place → List AutoInit × State → Checked (ℕ × (List AutoInit × State))
expression constant line e p w = expression_by (out-CType p.of) constant line e p w
