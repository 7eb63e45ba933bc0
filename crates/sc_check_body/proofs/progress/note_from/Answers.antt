use Rattle.std.proofs.Common.{rules, ◌≡◌, ℕ, ◌+◌, List, [], ◌∷◌, ◌++◌, ◌∙◌, ap}
use Rattle.sc_check_linkage.specs.declared.births.Birth.{Birth}
use Rattle.sc_check_linkage.specs.declared.births.Birth.TheVariants as birth
use Rattle.sc_check_body.specs.Progress.{literals}
use Rattle.sc_check_body.proofs.Births.{one_more}
use Rattle.sc_check_body.proofs.progress.note_from.Goals as goal

pub loop-at-preserved : goal.loop-at-preserved
loop-at-preserved c =
    let same : c.in-Ok.number ≡ c.loop-at.at = search rules in
    let pushed : c.push.new.self ≡ c.loop-at.noted ++ birth.Literal c.loop-at.at ∷ [] =
    c.in_ok-push.ensures.ok ∙ ap (λ (n : ℕ). c.loop-at.noted ++ birth.Literal n ∷ []) same in
    ap (λ (xs : List Birth). xs ++ literals (c.loop-at.at + 1) c.args.to) pushed
    ∙ one_more c.loop-at.noted c.loop-at.at c.args.to c.loop-at-test.true
    ∙ c.loop-at.invariant
