-- Inside: plumbing, a representation, an invariant or a promise beside the claim (docs/TRUST.md).
-- The theorem on all trees of a call: the induction by their depth, for calls that return within fewer moves.
use Rattle.std.specs.Prelude.{◌≡◌, ℕ, suc, ◌≤◌, true, List}
use Rattle.sc_core.specs.declared.expression.CoreExpr.{CoreExpr}
use Rattle.sc_core.specs.declared.statement.CoreStmt.{CoreStmt}
use Rattle.sc_core.specs.Types.{type_of}
use Rattle.sc_gen_code.specs.declared.style.Spot.{Spot}
use Rattle.sc_gen_code.specs.Operators.{is_scalar}
use Rattle.sc_gen_operand.specs.Plans.{foot}
use Rattle.sc_gen_expr.specs.Expressions.{part_of}
use Rattle.sc_gen_body.specs.Jumps.{Around}
use Rattle.sc_compiled_values.specs.Formed.{IsFormedIn}
use Rattle.sc_compiled_expressions.specs.Standing.{Home}
use Rattle.sc_compiled_expressions.specs.Good.{GivesAnswer, GivesValue, TellsTruth}
use Rattle.sc_compiled_expressions.specs.Footed.{GivesFoot}
use Rattle.sc_compiled_bodies.specs.Good.{GivesWay}
use Rattle.sc_compiled_expressions.specs.Called.{CallsReturn}
use Rattle.sc_compiled_bodies.specs.Depths.{Suits, depth, depth_of_statement}

-- what the code of an expression gives in each mode
pub record Gives (home : Home) (most deep : ℕ) (e : CoreExpr) (at : Spot) : Type 0 where
  pub answer : GivesAnswer home most deep e at
  pub value : GivesValue home most deep e at
  pub foot : GivesFoot home most deep (part_of home.style home.autos e foot e at) e 10 at
  pub truth : is_scalar (type_of e) ≡ true → TellsTruth home most deep e at

-- the blocks that enclose a place of the text, outermost last, and an expression that is formed there
abbrev pub ExpressionsGive : Home → List ℕ → ℕ → ℕ → Type 0
ExpressionsGive home around most deep = (e : CoreExpr) (at : Spot) → depth e ≤ deep → IsFormedIn home.env around e → Suits home e at → Gives home most deep e at

-- of all homes that differ in the blocks that are open
abbrev pub StatementsGive : (Home → List ℕ → CoreStmt → ℕ → Around → Type 0) → ℕ → ℕ → Type 0
StatementsGive IsFormedAt most deep = (home : Home) (around : List ℕ) (st : CoreStmt) (at : ℕ) (out : Around) → depth_of_statement st ≤ deep → IsFormedAt home around st at out → GivesWay home most deep st at out

-- One step of the induction on moves: where calls return within so many moves, expressions, statements and with them calls do within one more.
abbrev pub ExpressionStep : Home → List ℕ → ℕ → ℕ → Type 0
ExpressionStep home around most deep = CallsReturn home.from most → ExpressionsGive home around (suc most) deep → ExpressionsGive home around (suc most) (suc deep)
