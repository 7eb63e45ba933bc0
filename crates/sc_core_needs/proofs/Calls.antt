-- What a call needs room for.
use Rattle.std.proofs.Common.{◌≡◌, ℕ, min, List, map, length, sym, ◌∙◌, ap}
use Rattle.std.proofs.lemmas.List.{length-map}
use Rattle.sc_types.specs.declared.ctype.CType.{CType}
use Rattle.sc_core.specs.declared.expression.CoreExpr.{CoreExpr, out-CoreExpr, map-CoreExpr, fold_out-CoreExpr}
use Rattle.sc_core.specs.declared.expression.CoreExpr.TheVariants as e
use Rattle.sc_core.specs.declared.expression.CoreExpr.TheOpen.{CoreExpr-F}
use Rattle.sc_core_needs.specs.declared.needs.Need.{Need}
use Rattle.sc_core_needs.specs.Needs.{need, need_layer, beside, in_order, most}

abbrev pub called : Need → Need → ℕ → Need
called f others n = beside (beside f others) (record { room = 0; arguments = min n most })

pub call_needs : (x : CoreExpr) (l : ℕ) (of : CType) (f : CoreExpr) (args : List CoreExpr) → x ≡ e.Call l of f args
    → called (need f) (in_order 1 (map need args)) (length args) ≡ need x
call_needs x l of f args is =
    ap (called (need f) (in_order 1 (map need args))) (sym (length-map args need))
    ∙ sym (ap (λ (v : CoreExpr-F CoreExpr). need_layer (map-CoreExpr CoreExpr Need need v)) (ap out-CoreExpr is ∙ e.outs-Call l of f args))
    ∙ sym (fold_out-CoreExpr Need need_layer x)
