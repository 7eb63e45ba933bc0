-- Yardstick: to be compared with what it restates (docs/TRUST.md).
-- The lines of a function's blocks, and the table of its frame.
use Rattle.std.specs.Prelude.{ℕ, ◌+◌, List, [], ◌∷◌, ◌++◌, flat_map, map, slice_index_or, Option, Some, None}
use Rattle.sc_core.specs.declared.statement.CoreStmt.{CoreStmt, fold-CoreStmt}
use Rattle.sc_core.specs.declared.statement.CoreStmt.TheOpen.{CoreStmt-F}
use Rattle.sc_core.specs.declared.module.Auto.{Auto}
use Rattle.sc_core.specs.declared.module.Fun.{Fun}
use Rattle.sc_object.specs.declared.object.BlockTable.{BlockTable}
use Rattle.sc_object.specs.declared.object.FrameTable.{FrameTable}

abbrev pub joined : List (List ℕ) → List ℕ
joined xss = flat_map (λ xs. xs) xss

abbrev pub or_none : Option (List ℕ) → List ℕ
or_none None = []
or_none (Some xs) = xs

-- the lines on which blocks begin, in the order of the text
abbrev pub lines_layer : CoreStmt-F (List ℕ) → List ℕ
lines_layer (CoreStmt-F.Block line b ls ps) = line ∷ joined ps
lines_layer (CoreStmt-F.If l e p q) = p ++ or_none q
lines_layer (CoreStmt-F.Switch l e ls p) = p
lines_layer (CoreStmt-F.While l e p) = p
lines_layer (CoreStmt-F.Do l p line e) = p
lines_layer (CoreStmt-F.For l first e after p) = p
lines_layer (CoreStmt-F.Case l p) = p
lines_layer (CoreStmt-F.Default l p) = p
lines_layer (CoreStmt-F.Label l p) = p
lines_layer _ = []

abbrev pub lines_of : CoreStmt → List ℕ
lines_of = fold-CoreStmt (List ℕ) lines_layer

-- block 0, the parameters, has the line of the function's name
abbrev pub block_lines : Fun → List ℕ
block_lines f = f.line ∷ lines_of f.body

abbrev pub block_table : ℕ → List Auto → BlockTable
block_table line autos = record { line = line; slots = map (λ x. x.slot) autos }

-- the blocks from number n on
abbrev pub block_tables : List ℕ → ℕ → List (List Auto) → List BlockTable
block_tables lines n [] = []
block_tables lines n (autos ∷ more) = block_table (slice_index_or lines n 0) autos ∷ block_tables lines (n + 1) more

abbrev pub frame_table : ℕ → Fun → FrameTable
frame_table symbol f = record { symbol = symbol; cost = f.cost; blocks = block_tables (block_lines f) 0 f.blocks }
