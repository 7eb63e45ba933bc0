use Rattle.sc_services.proofs.Writing.{stored_inside}
use Rattle.sc_services.proofs.store.store_inside.Goals as goal

pub returns : goal.returns
returns c =
    let p = c.args.place in
    stored_inside c.store.result c.args.at c.args.size c.from-many.result p.id p.offset c.args.word c.in_ok-v.v c.args.world.now c.store.new.self c.requires c.in_ok-v.ensures c.from-many.ensures c.store.ensures
