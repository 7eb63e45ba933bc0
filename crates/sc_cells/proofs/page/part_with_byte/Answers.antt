use Rattle.std.proofs.Common.{arith}
use Rattle.sc_base.specs.declared.memory.Cell.TheVariants.{Byte}
use Rattle.sc_cells.proofs.Words.{part_put}
use Rattle.sc_cells.proofs.page.part_with_byte.Goals as goal

pub returns : goal.returns
returns c = part_put c.args.w c.with_byte.result c.args.written c.args.k (Byte c.args.byte) c.marked.result c.requires (search arith) c.with_byte.ensures c.marked.ensures
