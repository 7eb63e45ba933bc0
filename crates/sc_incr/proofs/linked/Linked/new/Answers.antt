use Rattle.sc_incr.proofs.Joining.{patched-nothing}
use Rattle.sc_incr.proofs.linked.Linked.new.Goals as goal

pub with_image-requires : goal.with_image-requires
with_image-requires c = patched-nothing c.in-Ok-copies.funs.items c.args.library.now c.in-Ok.image c.in-Ok-copies.ensures c.requires c.in-Ok.ensures.inside.stubs c.in-Ok.ensures.linked
