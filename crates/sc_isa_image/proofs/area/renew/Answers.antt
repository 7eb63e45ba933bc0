use Rattle.std.proofs.Common.{arith}
use Rattle.sc_isa_image.proofs.Renewed.{renewed-step}
use Rattle.sc_isa_image.proofs.area.renew.Goals as goal

pub renewing-preserved : goal.renewing-preserved
renewing-preserved c = renewed-step c.args.slots.now.items c.renewing.slots.items c.args.texts.now.texts c.args.from c.renewing.i c.decoded_at.result c.renewing.invariant (omega arith) (omega arith) c.decoded_at.ensures
