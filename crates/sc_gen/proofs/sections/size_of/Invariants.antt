use Rattle.std.proofs.Common.{◌≡◌, min, take}
use Rattle.std.specs.Prelude.{sum_by}
use Rattle.sc_gen.specs.Sections.{init_size}
use Rattle.sc_gen.proofs.sections.size_of.Given as goal

abbrev pub invariant-loop-piece : goal.invariant-loop-piece
invariant-loop-piece l = l.size ≡ min (sum_by init_size (take l.piece-index l.pieces)) 4294967295
