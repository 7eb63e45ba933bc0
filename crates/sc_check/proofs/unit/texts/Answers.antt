use Rattle.std.proofs.Common.{ℕ, List, [], ◌∷◌, ◌++◌, take, sym, ◌∙◌, ap}
use Rattle.std.proofs.Math.Numerals.{add-one}
use Rattle.sc_check.proofs.Texts.{next}
use Rattle.sc_check.proofs.unit.texts.Goals as goal

pub loop-at-preserved : goal.loop-at-preserved
loop-at-preserved c =
    c.in_ok-push.ensures.ok
    ∙ ap (λ (x : List ℕ). c.loop-at.all ++ x ∷ []) c.in_ok-copy.ensures
    ∙ ap (λ (xs : List (List ℕ)). xs ++ c.in-Some.text.now ∷ []) c.loop-at.invariant
    ∙ next c.args.literals.now c.loop-at.at c.in-Some.text.now (sym c.in-Some.ensures)
    ∙ ap (λ (n : ℕ). take n c.args.literals.now) (sym (add-one c.loop-at.at))
