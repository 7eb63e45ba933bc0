use Rattle.std.proofs.Common.{subst}
use Rattle.sc_mixed.specs.Parts.{Comes}
use Rattle.sc_mixed.proofs.Resting.{ends_so, rests_so}
use Rattle.sc_mixed.proofs.going.left_by.Goals as goal

pub returns-in-Rests : goal.returns-in-Rests
returns-in-Rests c = λ first p.
    rests_so c.args.texts.now c.args.want.now first c.args.image.now c.args.calls.now c.args.world.now c.closed.new.world c.args.next c.in-Rests.halt c.closed.result c.closed.ensures
    (subst (λ t. Comes c.args.texts.now c.args.image.now c.args.want.now first t c.args.next c.args.calls.now c.args.world.now) c.in-Rests.is p)

pub returns-in-Over : goal.returns-in-Over
returns-in-Over c = λ first p.
    ends_so c.args.texts.now c.args.want.now first c.args.image.now c.args.calls.now c.args.world.now c.args.next c.in-Over.broken c.end_of.result c.end_of.ensures
    (subst (λ t. Comes c.args.texts.now c.args.image.now c.args.want.now first t c.args.next c.args.calls.now c.args.world.now) c.in-Over.is p)
