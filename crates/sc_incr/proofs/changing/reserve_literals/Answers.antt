use Rattle.sc_incr.proofs.Stages.{linked-kept}
use Rattle.sc_incr.proofs.changing.reserve_literals.Goals as goal

pub returns-clause-kept : goal.returns-clause-kept
returns-clause-kept c = λ es fs h.
    let r = c.make_room.ensures in
    linked-kept es fs c.args.image.now c.make_room.new.self r.count r.keys r.values r.words r.texts r.literals h
