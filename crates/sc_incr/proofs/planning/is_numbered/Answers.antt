use Rattle.sc_incr.proofs.Replacing.{numbered-is}
use Rattle.sc_incr.proofs.planning.is_numbered.Goals as goal

pub returns : goal.returns
returns c = numbered-is c.args.funs.now c.args.image.now c.args.key.now c.is_function.result c.requires c.is_function.ensures
