use Rattle.sc_check.proofs.Carried.{carried, named_as}
use Rattle.sc_check.proofs.function.declared.Goals as goal

pub returns : goal.returns
returns c = carried _ _ c.named.result c.named.new.m (named_as c.in_ok-x.x _ c.args.m.now c.in_ok-x.ensures) c.named.ensures
