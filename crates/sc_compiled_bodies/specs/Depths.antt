-- Inside: plumbing, a representation, an invariant or a promise beside the claim (docs/TRUST.md).
-- How deep trees are, by which the meaning looks deeper than a run moves; and where an expression of a tree can be computed.
use Rattle.std.specs.Prelude.{◌≡◌, ℕ, suc, ◌+◌, ◌*◌, ◌≤◌, ◌%◌, max, true, List, [], ◌∷◌, Option, Some, None, map}
use Rattle.sc_core.specs.declared.expression.CoreExpr.{CoreExpr, fold-CoreExpr}
use Rattle.sc_core.specs.declared.expression.CoreExpr.TheOpen.{CoreExpr-F}
use Rattle.sc_core.specs.declared.statement.AutoInit.{AutoInit}
use Rattle.sc_core.specs.declared.statement.AutoInit.TheVariants as piece
use Rattle.sc_core.specs.declared.statement.CoreStmt.{CoreStmt, fold-CoreStmt}
use Rattle.sc_core.specs.declared.statement.CoreStmt.TheOpen.{CoreStmt-F}
use Rattle.sc_core_needs.specs.Needs.{need}
use Rattle.sc_gen_code.specs.declared.style.Spot.{Spot}
use Rattle.sc_gen_operand.specs.Places.{has_call}
use Rattle.sc_compiled_expressions.specs.Standing.{Home}

abbrev pub deepest : List ℕ → ℕ
deepest [] = 0
deepest (n ∷ ns) = max n (deepest ns)

abbrev pub below : CoreExpr-F ℕ → ℕ
below (CoreExpr-F.Index l t n a b) = max a b
below (CoreExpr-F.Call l t f args) = max f (deepest args)
below (CoreExpr-F.Member l t n a) = a
below (CoreExpr-F.Arrow l t n a) = a
below (CoreExpr-F.Step l t s n a) = a
below (CoreExpr-F.Address l t a) = a
below (CoreExpr-F.Indirection l t a) = a
below (CoreExpr-F.Unary l t o a) = a
below (CoreExpr-F.Cast l t a) = a
below (CoreExpr-F.Binary l t o a b) = max a b
below (CoreExpr-F.Offset l t o n a b) = max a b
below (CoreExpr-F.Difference l t n a b) = max a b
below (CoreExpr-F.Compare l t o a b) = max a b
below (CoreExpr-F.And l t a b) = max a b
below (CoreExpr-F.Or l t a b) = max a b
below (CoreExpr-F.Conditional l t a b d) = max a (max b d)
below (CoreExpr-F.Assign l t a b) = max a b
below (CoreExpr-F.AssignStructure l t n a b) = max a b
below (CoreExpr-F.Compound l t o k a b) = max a b
below (CoreExpr-F.CompoundOffset l t o n a b) = max a b
below (CoreExpr-F.Comma l t a b) = max a b
below (CoreExpr-F.Convert l t a) = a
below _ = 0

abbrev pub depth : CoreExpr → ℕ
depth = fold-CoreExpr ℕ (λ x. suc (below x))

abbrev pub depth_of_option : Option CoreExpr → ℕ
depth_of_option None = 0
depth_of_option (Some e) = depth e

abbrev pub depth_of_piece : AutoInit → ℕ
depth_of_piece (piece.Value n t e) = depth e
depth_of_piece (piece.Structure n e) = depth e
depth_of_piece (piece.Text n bytes) = 0
depth_of_piece (piece.Zero n m) = 0

abbrev pub or_none : Option ℕ → ℕ
or_none None = 0
or_none (Some n) = n

-- a loop looks one deeper for its turns
abbrev pub below_statement : CoreStmt-F ℕ → ℕ
below_statement (CoreStmt-F.Block l n labels ss) = suc (deepest ss)
below_statement (CoreStmt-F.Initialize l block n ps) = deepest (map depth_of_piece ps)
below_statement (CoreStmt-F.Empty l) = 0
below_statement (CoreStmt-F.Expression l e) = depth e
below_statement (CoreStmt-F.If l e s other) = max (depth e) (max s (or_none other))
below_statement (CoreStmt-F.Switch l e labels s) = max (depth e) (suc s)
below_statement (CoreStmt-F.While l e s) = suc (max (depth e) s)
below_statement (CoreStmt-F.Do l s line e) = suc (max s (depth e))
below_statement (CoreStmt-F.For l first e after s) = suc (max (max (depth_of_option first) (depth_of_option e)) (max (depth_of_option after) s))
below_statement (CoreStmt-F.Case l s) = s
below_statement (CoreStmt-F.Default l s) = s
below_statement (CoreStmt-F.Label l s) = s
below_statement (CoreStmt-F.Goto l k) = 0
below_statement (CoreStmt-F.Continue l) = 0
below_statement (CoreStmt-F.Break l) = 0
below_statement (CoreStmt-F.Return l e) = depth_of_option e

abbrev pub depth_of_statement : CoreStmt → ℕ
depth_of_statement = fold-CoreStmt ℕ (λ x. suc (below_statement x))

-- An expression is computed where no operand waits in a register while it calls, and where the frame has room for its temporaries.
pub record Suits (home : Home) (e : CoreExpr) (at : Spot) : Type 0 where
  pub calm : has_call e ≡ true → at.depth ≡ 0
  pub few : at.depth ≤ 5
  pub above : home.outgoing ≤ at.low
  pub even : at.low % 4 ≡ 0
  pub room : at.low + 4 * (need e).room ≤ home.room
  pub arguments : 4 * (need e).arguments ≤ home.outgoing + 32
