use Rattle.std.proofs.Common.{refl, ap, ◌∙◌, ℕ, [], ◌∷◌, ◌++◌}
use Rattle.std.proofs.lemmas.Result.{on_ok_weaker}
use Rattle.sc_gen_expr.proofs.Appended.{one-more}
use Rattle.sc_gen_expr.proofs.emit.write_one.Goals as goal

pub returns : goal.returns
returns c =
    on_ok_weaker
    c.push.result
    (λ e. one-more c.args.s.now c.args.at.now c.relocate_word.new.at _ c.in_ok-relocate_word.ensures (e ∙ ap (λ (w : ℕ). c.relocate_word.new.at.words ++ w ∷ []) c.symbolic_word.ensures) refl refl refl refl)
    c.push.ensures.ok
