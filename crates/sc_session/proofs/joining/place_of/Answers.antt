use Rattle.std.proofs.Common.{arith, add-one, sym, ◌∙◌, subst}
use Rattle.sc_session.proofs.PlaceLemmas.{IsBefore, before_more, none_there, place_found, there}
use Rattle.sc_session.proofs.joining.place_of.Goals as goal

pub returns-then-not-is_beside : goal.returns-then-not-is_beside
returns-then-not-is_beside c =
    place_found c.args.new.now c.loop-i.i c.args.modules.now c.index-modules-i.result c.loop-i.invariant
    (there c.args.modules.now c.loop-i.i c.index-modules-i.result c.loop-i-test.true c.index-modules-i.is)
    (sym c.is_beside.ensures ∙ c.if-not-is_beside.true)

pub loop-i-preserved : goal.loop-i-preserved
loop-i-preserved c =
    subst (λ n. IsBefore c.args.new.now n c.args.modules.now) (sym (add-one c.loop-i.i))
    (before_more c.args.new.now c.loop-i.i c.args.modules.now c.index-modules-i.result
    (there c.args.modules.now c.loop-i.i c.index-modules-i.result c.loop-i-test.true c.index-modules-i.is)
    (sym c.is_beside.ensures ∙ c.if-not-is_beside.false) c.loop-i.invariant)

pub returns : goal.returns
returns c = none_there c.args.new.now c.loop-i.i c.args.modules.now c.loop-i.invariant (omega arith)
