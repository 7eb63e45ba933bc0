use Rattle.std.proofs.Common.{subst, sym}
use Rattle.sc_mixed.specs.Parts.{standing_at}
use Rattle.sc_mixed.specs.Single.{StepsOne}
use Rattle.sc_mixed.proofs.Singles.{over_already}
use Rattle.sc_mixed.proofs.single.steps_from.Goals as goal

pub returns-in-Over : goal.returns-in-Over
returns-in-Over c = over_already c.args.texts.now c.args.want.now c.args.image.now c.args.calls.now c.args.world.now c.args.course c.in-Over.end c.in-Over.is

pub returns-in-On : goal.returns-in-On
returns-in-On c =
    subst (λ x. StepsOne c.args.texts.now c.args.want.now (standing_at c.args.image.now c.args.calls.now c.args.world.now x) c.steps_on.result.halt (standing_at c.args.image.now c.steps_on.new.calls c.steps_on.new.world c.steps_on.result.course)) (sym c.in-On.is) c.steps_on.ensures
