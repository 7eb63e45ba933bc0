-- Inside: plumbing, a representation, an invariant or a promise beside the claim (docs/TRUST.md).
-- Where an expression of integer type can take its value from, in a tree whose types are right (ANSI 3.2, 3.3).
use Rattle.std.specs.Prelude.{◌≡◌, ℕ, zero, suc, Bool, true, false, List, [], ◌∷◌, Option, Some, None}
use Rattle.sc_base.specs.declared.key.Key.{Key}
use Rattle.sc_types.specs.declared.ctype.CType.{CType, out-CType}
use Rattle.sc_types.specs.declared.ctype.CType.TheOpen.{CType-F}
use Rattle.sc_types.specs.declared.ctype.Signature.{Signature}
use Rattle.sc_core.specs.declared.expression.CoreExpr.{CoreExpr, out-CoreExpr}
use Rattle.sc_core.specs.declared.expression.CoreExpr.TheOpen.{CoreExpr-F}
use Rattle.sc_core.specs.declared.expression.UnaryOperator.{UnaryOperator}
use Rattle.sc_core.specs.declared.expression.UnaryOperator.TheVariants.{Plus, Minus, Complement, Not}
use Rattle.sc_core.specs.declared.statement.CoreStmt.{CoreStmt, out-CoreStmt}
use Rattle.sc_core.specs.declared.statement.CoreStmt.TheOpen.{CoreStmt-F}
use Rattle.sc_core.specs.declared.module.Fun.{Fun}
use Rattle.sc_core.specs.Types.{type_of}
use Rattle.sc_meaning.specs.Values.{Value, Number, FunctionAt, Pointer}
use Rattle.sc_meaning.specs.Outcomes.{Outcome, Done, Over}
use Rattle.sc_meaning.specs.Versions.{Text, History, InText, callee_of, version_at}
use Rattle.sc_meaning.specs.Expressions.{Answer, Plain, Place, Part, Nothing, target_in}

abbrev pub layer_is_integer : CType-F CType Signature → Bool
layer_is_integer (CType-F.Int i c) = true
layer_is_integer _ = false

abbrev pub is_integer : CType → Bool
is_integer t = layer_is_integer (out-CType t)

abbrev pub result_is_integer : Option Signature → Bool
result_is_integer None = false
result_is_integer (Some s) = is_integer s.result

-- the type of a pointer to a function with an integer result
abbrev pub gives_integer : CType → Bool
gives_integer t = result_is_integer (target_in (out-CType t))

-- what is a place by its form
abbrev pub is_place_layer : CoreExpr-F CoreExpr → Bool
is_place_layer (CoreExpr-F.Literal l t i) = true
is_place_layer (CoreExpr-F.Automatic l t b i) = true
is_place_layer (CoreExpr-F.Static l t key) = true
is_place_layer (CoreExpr-F.Index l t size a b) = true
is_place_layer (CoreExpr-F.Member l t n a) = true
is_place_layer (CoreExpr-F.Arrow l t n a) = true
is_place_layer (CoreExpr-F.Indirection l t a) = true
is_place_layer _ = false

-- a place, which is read, or a whole value
abbrev pub place_or_whole : (CoreExpr → Type 0) → CoreExpr → Bool → Type 0
place_or_whole W a true = Unit {0}
place_or_whole W a false = W a

-- unary plus gives its operand's value, the other operators a number
abbrev pub whole_operand : (CoreExpr → Type 0) → UnaryOperator → CoreExpr → Type 0
whole_operand W Plus a = W a
whole_operand W Minus a = Unit {0}
whole_operand W Complement a = Unit {0}
whole_operand W Not a = Unit {0}

-- Where the value of an expression of integer type comes from: an operator gives a number by itself; a conversion takes the
-- value of an integer, or reads a place that holds one; and so on.
abbrev pub whole_layer : (CoreExpr → Type 0) → CoreExpr-F CoreExpr → Type 0
whole_layer W (CoreExpr-F.Number l t n) = Unit {0}
whole_layer W (CoreExpr-F.Call l t f es) = gives_integer (type_of f) ≡ true
whole_layer W (CoreExpr-F.Step l t s n a) = is_integer (type_of a) ≡ true
whole_layer W (CoreExpr-F.Unary l t o a) = whole_operand W o a
whole_layer W (CoreExpr-F.Cast l t a) = W a
whole_layer W (CoreExpr-F.Binary l t o a b) = Unit {0}
whole_layer W (CoreExpr-F.Difference l t size a b) = Unit {0}
whole_layer W (CoreExpr-F.Compare l t o a b) = Unit {0}
whole_layer W (CoreExpr-F.And l t a b) = Unit {0}
whole_layer W (CoreExpr-F.Or l t a b) = Unit {0}
whole_layer W (CoreExpr-F.Conditional l t a b c) = W b × W c
whole_layer W (CoreExpr-F.Assign l t a b) = W b
whole_layer W (CoreExpr-F.Compound l t o i a b) = Unit {0}
whole_layer W (CoreExpr-F.Comma l t a b) = W b
whole_layer W (CoreExpr-F.Convert l t a) = (is_integer (type_of a) ≡ true) × place_or_whole W a (is_place_layer (out-CoreExpr a))
whole_layer W _ = ⊥

-- the same, k deep; a value of integer type is whole at every depth
abbrev pub WholeTo : ℕ → CoreExpr → Type 0
WholeTo zero e = Unit {0}
WholeTo (suc k) e = whole_layer (WholeTo k) (out-CoreExpr e)

abbrev pub IsWhole : CoreExpr → Type 0
IsWhole e = (k : ℕ) → WholeTo k e

abbrev pub Every : (CoreStmt → Type 0) → List CoreStmt → Type 0
Every W [] = Unit {0}
Every W (s ∷ ss) = W s × Every W ss

abbrev pub Optionally : {A : Type 0} → (A → Type 0) → Option A → Type 0
Optionally W None = Unit {0}
Optionally W (Some a) = W a

-- a statement in which every value that is returned is whole
abbrev pub returns_layer : ℕ → (CoreStmt → Type 0) → CoreStmt-F CoreStmt → Type 0
returns_layer k W (CoreStmt-F.Block l b ls ss) = Every W ss
returns_layer k W (CoreStmt-F.If l e a b) = W a × Optionally W b
returns_layer k W (CoreStmt-F.Switch l e labels a) = W a
returns_layer k W (CoreStmt-F.While l e a) = W a
returns_layer k W (CoreStmt-F.Do l a m e) = W a
returns_layer k W (CoreStmt-F.For l f c x a) = W a
returns_layer k W (CoreStmt-F.Case l a) = W a
returns_layer k W (CoreStmt-F.Default l a) = W a
returns_layer k W (CoreStmt-F.Label l a) = W a
returns_layer k W (CoreStmt-F.Return l e) = Optionally (WholeTo k) e
returns_layer k W _ = Unit {0}

abbrev pub ReturnsTo : ℕ → CoreStmt → Type 0
ReturnsTo zero s = Unit {0}
ReturnsTo (suc k) s = returns_layer k (ReturnsTo k) (out-CoreStmt s)

abbrev pub ReturnsWhole : CoreStmt → Type 0
ReturnsWhole s = (k : ℕ) → ReturnsTo k s

-- every function with an integer result that can be called returns whole values
abbrev pub AreWhole : History → Type 0
AreWhole h = (k : ℕ) (key : Key) (t : Text) (f : Fun) → callee_of (version_at h k) key ≡ InText t f → is_integer f.of.result ≡ true → ReturnsWhole f.body

-- a value is no pointer
abbrev pub IsNumber : Value → Type 0
IsNumber (Number n) = Unit {0}
IsNumber (FunctionAt key) = ⊥
IsNumber (Pointer o i) = ⊥

-- an answer is a number, or there is none
abbrev pub IsInteger : Answer → Type 0
IsInteger (Plain v) = IsNumber v
IsInteger (Place p) = ⊥
IsInteger (Part p n) = ⊥
IsInteger Nothing = Unit {0}

-- what holds of the result of a part, where it has one
abbrev pub Gives : {A : Type 0} → (A → Type 0) → Outcome A → Type 0
Gives P (Done a w) = P a
Gives P (Over e) = Unit {0}
