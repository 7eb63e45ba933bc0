use Rattle.std.proofs.Common.{ℕ, ◌*◌, refl, ap, ◌∙◌}
use Rattle.std.proofs.lemmas.Result.{on_ok_weaker}
use Rattle.sc_gen_expr.specs.Words.{fitted, mention, number_of}
use Rattle.sc_gen_expr.proofs.Appended.{relocated}
use Rattle.sc_gen_expr.proofs.emit.relocate.Goals as goal

pub returns : goal.returns
returns c =
    let known = c.in_ok-number.ensures.known ∙ ap (mention c.args.at.now.targets) c.in_ok-own.ensures in
    let number = c.fitted.ensures ∙ ap fitted (c.in_ok-number.ensures.number ∙ ap (number_of c.args.at.now.targets) c.in_ok-own.ensures) in
    on_ok_weaker
    c.push.result
    (λ e. relocated c.args.kind c.args.target.now c.args.at.now _ c.offset_of-offset.result c.fitted.result refl known (c.offset_of-offset.ensures ∙ ap (λ (k : ℕ). fitted (4 * k)) c.len.ensures) number e refl refl)
    c.push.ensures.ok
