use Rattle.sc_check.proofs.Carried.{carried, linked}
use Rattle.sc_check.proofs.file.linked.Goals as goal

pub returns : goal.returns
returns c =
    carried _ _ c.object.result c.object.new.m
    (linked c.in_ok-place.place c.args.x.now c.args.given.now c.args.m.now c.link.new.m c.name_link.new.m c.in_ok-place.ensures c.in_ok-name_link.ensures)
    c.object.ensures
