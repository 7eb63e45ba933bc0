use Rattle.sc_services.proofs.Ways.{copied_by}
use Rattle.sc_services.proofs.copying.copy.Goals as goal

pub returns : goal.returns
returns c =
    copied_by c.args.regs.now c.args.world.now c.copy_inside.new.world c.get-to.result c.get-from.result c.get-n.result c.is_range.result c.is_range-else-not-is_range.result
    c.get-to.ensures c.get-from.ensures c.get-n.ensures c.is_range.ensures c.is_range-else-not-is_range.ensures c.if-not-is_range.false c.if-not-is_range-2.false c.in_ok-copy_inside.ensures
