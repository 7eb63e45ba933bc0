-- How a call uses an object.
use Rattle.std.proofs.Common.{◌≡◌, ℕ, List, map, sym, ◌∙◌, ap}
use Rattle.sc_types.specs.declared.ctype.CType.{CType}
use Rattle.sc_core.specs.declared.expression.CoreExpr.{CoreExpr, out-CoreExpr, map-CoreExpr, fold_out-CoreExpr}
use Rattle.sc_core.specs.declared.expression.CoreExpr.TheVariants as e
use Rattle.sc_core.specs.declared.expression.CoreExpr.TheOpen.{CoreExpr-F}
use Rattle.sc_opt.specs.declared.uses.Candidate.{Candidate}
use Rattle.sc_opt.specs.declared.uses.Use.{Use}
use Rattle.sc_opt.specs.Uses.{use_of, use_layer, beside, costing, all}

pub call_uses : (w : Candidate) (x : CoreExpr) (l : ℕ) (t : CType) (f : CoreExpr) (args : List CoreExpr) → x ≡ e.Call l t f args
    → costing 1 (beside (use_of w f) (all (map (use_of w) args))) ≡ use_of w x
call_uses w x l t f args is =
    sym (ap (λ (v : CoreExpr-F CoreExpr). use_layer w (map-CoreExpr CoreExpr Use (use_of w) v)) (ap out-CoreExpr is ∙ e.outs-Call l t f args))
    ∙ sym (fold_out-CoreExpr Use (use_layer w) x)
