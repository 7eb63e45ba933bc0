use Rattle.std.proofs.Common.{subst}
use Rattle.sc_mixed.specs.Parts.{came_to}
use Rattle.sc_mixed.specs.Single.{Passes}
use Rattle.sc_mixed.proofs.Singles.{steps_over, steps_there}
use Rattle.sc_mixed.proofs.single.left_by.Goals as goal

pub returns-in-Ok : goal.returns-in-Ok
returns-in-Ok c = λ first p.
    steps_there c.args.texts.now c.args.want.now c.args.image.now first c.args.calls.now c.args.world.now c.closed.new.world c.args.next c.in-Ok.shown c.closed.result
    (subst (λ r. Passes c.args.texts.now c.args.want.now first (came_to c.args.image.now r c.args.next c.args.calls.now c.args.world.now)) c.in-Ok.is p)
    c.halts.result c.halts.ensures c.closed.ensures

pub returns-in-Err : goal.returns-in-Err
returns-in-Err c = λ first p.
    steps_over c.args.texts.now c.args.want.now c.args.image.now first c.args.calls.now c.args.world.now c.in-Err.broken c.end_of.result c.end_of.ensures
    (subst (λ r. Passes c.args.texts.now c.args.want.now first (came_to c.args.image.now r c.args.next c.args.calls.now c.args.world.now)) c.in-Err.is p)
