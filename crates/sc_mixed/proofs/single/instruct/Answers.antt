use Rattle.std.proofs.Common.{Ok, Err, refl, subst}
use Rattle.sc_mixed.specs.Parts.{LeadsOnce, came_to}
use Rattle.sc_mixed.proofs.Singles.{passes_by, settles_at_once}
use Rattle.sc_mixed.proofs.single.instruct.Goals as goal

pub returns-in-Ok : goal.returns-in-Ok
returns-in-Ok c = λ first m now settles is takes.
    passes_by c.args.texts.now c.args.want.now c.args.image.now first c.args.calls.now c.moved_once.new.calls c.args.world.now c.moved_once.new.world c.args.next.now c.moved_once.new.next now m
    (came_to c.args.image.now c.settle.result c.settle.new.next c.settle.new.calls c.settle.new.world) (Ok c.in-Ok.now)
    (subst (λ r. LeadsOnce c.args.texts.now c.args.image.now c.args.next.now c.args.calls.now c.args.world.now r c.moved_once.new.next c.moved_once.new.calls c.moved_once.new.world) c.in-Ok.is c.moved_once.ensures)
    c.settle.ensures settles is takes

pub returns-in-Err : goal.returns-in-Err
returns-in-Err c = λ first m now settles is takes.
    passes_by c.args.texts.now c.args.want.now c.args.image.now first c.args.calls.now c.moved_once.new.calls c.args.world.now c.moved_once.new.world c.args.next.now c.moved_once.new.next now m
    (came_to c.args.image.now (Err c.in-Err.broken) c.moved_once.new.next c.moved_once.new.calls c.moved_once.new.world) (Err c.in-Err.broken)
    (subst (λ r. LeadsOnce c.args.texts.now c.args.image.now c.args.next.now c.args.calls.now c.args.world.now r c.moved_once.new.next c.moved_once.new.calls c.moved_once.new.world) c.in-Err.is c.moved_once.ensures)
    (settles_at_once c.args.texts.now c.args.want.now (came_to c.args.image.now (Err c.in-Err.broken) c.moved_once.new.next c.moved_once.new.calls c.moved_once.new.world) refl) settles is takes
