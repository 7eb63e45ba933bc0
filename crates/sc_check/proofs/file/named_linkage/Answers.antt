use Rattle.sc_check.proofs.Carried.{carried, linked_as}
use Rattle.sc_check.proofs.file.named_linkage.Goals as goal

pub returns : goal.returns
returns c = carried _ _ c.linked.result c.linked.new.m (linked_as c.in_ok-x.x _ c.args.given.now c.args.m.now c.in_ok-x.ensures) c.linked.ensures
