-- Inside: plumbing, a representation, an invariant or a promise beside the claim (docs/TRUST.md).
-- Statements `x = n;` of objects that a text reaches by their names, `f();` of functions that it calls by their names, `return;` and `return n;`.
use Rattle.std.specs.Prelude.{◌≡◌, ◌⊎◌, ⊤, ℕ, ◌^◌, ◌<◌, true, false, List, [], ◌∷◌, None, Some}
use Rattle.sc_base.specs.declared.key.Key.{Key}
use Rattle.sc_types.specs.declared.ctype.CType.{CType, out-CType}
use Rattle.sc_types.specs.declared.ctype.CType.TheOpen.{CType-F}
use Rattle.sc_types.specs.declared.ctype.Signature.{Signature}
use Rattle.sc_core.specs.declared.expression.CoreExpr.{CoreExpr, out-CoreExpr}
use Rattle.sc_core.specs.declared.expression.CoreExpr.TheOpen.{CoreExpr-F}
use Rattle.sc_core.specs.declared.statement.CoreStmt.{CoreStmt, out-CoreStmt}
use Rattle.sc_core.specs.declared.statement.CoreStmt.TheOpen.{CoreStmt-F}
use Rattle.sc_core.specs.Types.{type_of}
use Rattle.sc_meaning.specs.Values.{is_pointer_type}
use Rattle.sc_gen_code.specs.Calls.{is_printf}
use Rattle.sc_gen_code.specs.Code.{Code}
use Rattle.sc_gen_code.specs.Operators.{is_scalar}
use Rattle.sc_gen_code.specs.declared.symbolic.Symbolic.TheVariants.{Call, Upper}
use Rattle.sc_gen_code.specs.declared.symbolic.Target.TheVariants as target
use Rattle.sc_compiled_expressions.specs.Standing.{HasWord}

-- x = n;
pub record IsStore (text : Code) (st : CoreStmt) : Type 0 where
  pub line : ℕ
  pub whole : CoreExpr
  pub statement : out-CoreStmt st ≡ CoreStmt-F.Expression line whole
  pub at : ℕ
  pub of : CType
  pub left : CoreExpr
  pub right : CoreExpr
  pub assigns : out-CoreExpr whole ≡ CoreExpr-F.Assign at of left right
  pub at_left : ℕ
  pub of_left : CType
  pub key : Key
  pub names : out-CoreExpr left ≡ CoreExpr-F.Static at_left of_left key
  pub scalar : is_scalar (type_of left) ≡ true
  pub reached : HasWord text (Upper (target.Named key))
  pub at_right : ℕ
  pub of_right : CType
  pub number : ℕ
  pub gives : out-CoreExpr right ≡ CoreExpr-F.Number at_right of_right number
  pub small : number < 2 ^ 32

-- return;
abbrev pub IsReturn : CoreStmt → Type 0
IsReturn st = (line : ℕ) × (out-CoreStmt st ≡ CoreStmt-F.Return line None)

-- return n;
pub record IsGiven (st : CoreStmt) : Type 0 where
  pub line : ℕ
  pub value : CoreExpr
  pub statement : out-CoreStmt st ≡ CoreStmt-F.Return line (Some value)
  pub at : ℕ
  pub of : CType
  pub number : ℕ
  pub gives : out-CoreExpr value ≡ CoreExpr-F.Number at of number
  pub fits : number < 2 ^ 32

-- f(); of another function than printf
pub record IsCall (text : Code) (st : CoreStmt) : Type 0 where
  pub line : ℕ
  pub whole : CoreExpr
  pub statement : out-CoreStmt st ≡ CoreStmt-F.Expression line whole
  pub at : ℕ
  pub of : CType
  pub callee : CoreExpr
  pub calls : out-CoreExpr whole ≡ CoreExpr-F.Call at of callee []
  pub at_callee : ℕ
  pub of_callee : CType
  pub name : CoreExpr
  pub decays : out-CoreExpr callee ≡ CoreExpr-F.Convert at_callee of_callee name
  pub pointer : is_pointer_type of_callee ≡ true
  pub at_name : ℕ
  pub of_name : CType
  pub key : Key
  pub names : out-CoreExpr name ≡ CoreExpr-F.Function at_name of_name key
  pub signature : Signature
  pub function : out-CType (type_of name) ≡ CType-F.Function signature
  pub other : is_printf key ≡ false
  pub reached : HasWord text (Call (target.Named key))

-- such stores and returns, and other statements of which something is known
abbrev pub AreSteps : (CoreStmt → Type 0) → Code → List CoreStmt → Type 0
AreSteps Other text [] = ⊤
AreSteps Other text (s ∷ ss) = (IsStore text s ⊎ (IsReturn s ⊎ (IsGiven s ⊎ Other s))) × AreSteps Other text ss
