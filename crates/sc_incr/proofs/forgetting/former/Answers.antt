use Rattle.std.proofs.Common.{◌≡◌, ◌∙◌, arith, length, refl, rules, subst, sym, take}
use Rattle.std.proofs.lemmas.Grind.{common_steps}
use Rattle.std.proofs.lemmas.Option.{slice_get_read}
use Rattle.sc_incr.specs.Leaving.{AreAllPresent}
use Rattle.sc_incr.proofs.Former.{former-at, present-more}
use Rattle.sc_incr.proofs.forgetting.former.Goals as goal

pub loop-at-preserved : goal.loop-at-preserved
loop-at-preserved c =
    let xs = c.args.entries.now in
    present-more xs c.loop-at.at c.index-entries-at.result (slice_get_read xs (length xs) c.loop-at.at c.index-entries-at.result refl (search rules) c.index-entries-at.is) (sym c.is_former.ensures ∙ c.if-is_former.false) c.loop-at.invariant

pub returns-then-is_former : goal.returns-then-is_former
returns-then-is_former c =
    let xs = c.args.entries.now in
    former-at xs c.loop-at.at c.index-entries-at.result (slice_get_read xs (length xs) c.loop-at.at c.index-entries-at.result refl (search rules) c.index-entries-at.is) (sym c.is_former.ensures ∙ c.if-is_former.true) c.loop-at.invariant

pub returns : goal.returns
returns c =
    let e : take c.loop-at.at c.args.entries.now ≡ c.args.entries.now = grind (arith, common_steps) in
    subst AreAllPresent e c.loop-at.invariant
