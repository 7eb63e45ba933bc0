-- The induction on the depth of trees.
use Rattle.std.proofs.Common.{ℕ, zero, suc, ◌≤◌, List, arith}
use Rattle.sc_core.specs.declared.expression.CoreExpr.{CoreExpr, fold_out-CoreExpr}
use Rattle.sc_compiled_expressions.specs.Standing.{Home}
use Rattle.sc_compiled_expressions.specs.Called.{CallsReturn}
use Rattle.sc_compiled_bodies.specs.Depths.{below, depth}
use Rattle.sc_compiled_bodies.specs.Induction.{ExpressionStep, ExpressionsGive}

no_tree : (e : CoreExpr) → depth e ≤ 0 → ⊥
no_tree e le = let is = fold_out-CoreExpr ℕ (λ x. suc (below x)) e in omega (arith, is, le)

pub trees : (home : Home) (around : List ℕ) (most : ℕ) → ((deep : ℕ) → ExpressionStep home around most deep) → CallsReturn home.from most → (deep : ℕ) → ExpressionsGive home around (suc most) deep
trees home around most step calls zero = λ e at le formed suits. absurd (no_tree e le)
trees home around most step calls (suc deep) = step deep calls (trees home around most step calls deep)
