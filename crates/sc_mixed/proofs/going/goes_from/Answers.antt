use Rattle.std.proofs.Common.{subst, sym}
use Rattle.sc_mixed.specs.Goes.{Goes}
use Rattle.sc_mixed.specs.Parts.{standing_at}
use Rattle.sc_mixed.proofs.Resting.{over_stays}
use Rattle.sc_mixed.proofs.going.goes_from.Goals as goal

pub returns-in-Over-clause-goes : goal.returns-in-Over-clause-goes
returns-in-Over-clause-goes c = over_stays c.args.texts.now c.args.want.now c.args.image.now c.args.calls.now c.args.world.now c.args.course c.in-Over.end c.in-Over.is

pub returns-in-On-clause-goes : goal.returns-in-On-clause-goes
returns-in-On-clause-goes c =
    subst (λ x. Goes c.args.texts.now c.args.want.now (standing_at c.args.image.now c.args.calls.now c.args.world.now x) c.goes_on.result.halt (standing_at c.args.image.now c.goes_on.new.calls c.goes_on.new.world c.goes_on.result.course)) (sym c.in-On.is) c.goes_on.ensures
