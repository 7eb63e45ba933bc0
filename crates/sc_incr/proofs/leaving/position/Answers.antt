use Rattle.std.proofs.Common.{◌≡◌, ◌∙◌, ap, arith, length, refl, rules, subst, sym, take}
use Rattle.std.proofs.lemmas.Grind.{common_steps}
use Rattle.std.proofs.lemmas.Option.{slice_get_read}
use Rattle.sc_incr.specs.Leaving.{IsAbsent}
use Rattle.sc_incr.specs.Program.{is_present}
use Rattle.sc_incr.proofs.Dropping.{absent-more, found-at}
use Rattle.sc_incr.proofs.leaving.position.Goals as goal

pub loop-at-preserved : goal.loop-at-preserved
loop-at-preserved c =
    let xs = c.args.entries.now in
    let name = c.args.name.now in
    absent-more name xs c.loop-at.at c.index-entries-at.result (slice_get_read xs (length xs) c.loop-at.at c.index-entries-at.result refl (search rules) c.index-entries-at.is)
    (ap (is_present name) (sym c.placed.ensures) ∙ (sym c.is_present.ensures ∙ c.if-is_present.false)) c.loop-at.invariant

pub returns-then-is_present : goal.returns-then-is_present
returns-then-is_present c =
    let xs = c.args.entries.now in
    let name = c.args.name.now in
    found-at name xs c.loop-at.at c.index-entries-at.result (slice_get_read xs (length xs) c.loop-at.at c.index-entries-at.result refl (search rules) c.index-entries-at.is)
    (ap (is_present name) (sym c.placed.ensures) ∙ (sym c.is_present.ensures ∙ c.if-is_present.true)) c.loop-at.invariant

pub returns : goal.returns
returns c =
    let e : take c.loop-at.at c.args.entries.now ≡ c.args.entries.now = grind (arith, common_steps) in
    subst (λ es. IsAbsent c.args.name.now es) e c.loop-at.invariant
