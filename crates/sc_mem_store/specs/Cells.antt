-- Inside: plumbing, a representation, an invariant or a promise beside the claim (docs/TRUST.md).
-- A byte of an object of the program, as the meaning has it.
use Rattle.sc_mem_store.specs.declared.cell.Content.{Content}
use Rattle.sc_mem_store.specs.declared.cell.Content.TheVariants as content
use Rattle.sc_meaning.specs.Values.{Cell, Unwritten, Byte, Piece}

abbrev pub cell_of : Content → Cell
cell_of content.Unwritten = Unwritten
cell_of (content.Byte b) = Byte b
cell_of (content.Piece v k) = Piece v k
