use Rattle.std.proofs.Common.{◌≡◌, List, map, ◌∙◌, ap}
use Rattle.sc_core.specs.declared.expression.CoreExpr.{CoreExpr}
use Rattle.sc_opt.specs.declared.uses.Use.{Use}
use Rattle.sc_opt.specs.Uses.{use_of, beside, costing, all}
use Rattle.sc_opt.proofs.Calls.{call_uses}
use Rattle.sc_opt.proofs.uses.+expressions.Goals as goal

pub use_of-returns-in-Call : goal.use_of-returns-in-Call
use_of-returns-in-Call t c =
    let x = c.args.x in
    let f = c.use_of.ensures ∙ ap (use_of x) c.get.ensures in
    let others = c.uses_of-others.ensures ∙ ap (λ (es : List CoreExpr). all (map (use_of x) es)) c.as_slice.ensures in
    c.costing.ensures
    ∙ ap (costing 1) c.beside.ensures
    ∙ ap (λ (a : Use). costing 1 (beside a c.uses_of-others.result)) f
    ∙ ap (λ (a : Use). costing 1 (beside (use_of x c.in-Call.f) a)) others
    ∙ call_uses x c.args.e.now c.in-Call.field-0 c.in-Call.field-1 c.in-Call.f c.in-Call.args c.in-Call.is
