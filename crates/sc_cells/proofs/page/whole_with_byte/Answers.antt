use Rattle.sc_base.specs.declared.memory.Cell.TheVariants.{Byte}
use Rattle.sc_cells.proofs.Words.{whole_put}
use Rattle.sc_cells.proofs.page.whole_with_byte.Goals as goal

pub returns : goal.returns
returns c = whole_put c.args.w c.with_byte.result c.args.k (Byte c.args.byte) c.requires c.with_byte.ensures
