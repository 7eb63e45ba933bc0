use Rattle.std.proofs.Common.{◌≡◌, ℕ, List, map, ◌∙◌, ap}
use Rattle.sc_core.specs.declared.expression.CoreExpr.{CoreExpr}
use Rattle.sc_core_needs.specs.declared.needs.Need.{Need}
use Rattle.sc_core_needs.specs.Needs.{need, beside, in_order, most}
use Rattle.sc_core_needs.proofs.Calls.{called, call_needs}
use Rattle.sc_core_needs.proofs.needs.+needs.Goals as goal

pub need_of-returns-in-Call : goal.need_of-returns-in-Call
need_of-returns-in-Call t c =
    let f = c.need_of.ensures ∙ ap need c.get.ensures in
    let others = c.arguments-others.ensures ∙ ap (λ (es : List CoreExpr). in_order 1 (map need es)) c.as_slice.ensures in
    c.call.ensures
    ∙ ap (λ (a : Need). called a c.arguments-others.result c.len.result) f
    ∙ ap (λ (a : Need). called (need c.in-Call.f) a c.len.result) others
    ∙ ap (called (need c.in-Call.f) (in_order 1 (map need c.in-Call.args))) c.len.ensures
    ∙ call_needs c.args.e.now c.in-Call.field-0 c.in-Call.field-1 c.in-Call.f c.in-Call.args c.in-Call.is
