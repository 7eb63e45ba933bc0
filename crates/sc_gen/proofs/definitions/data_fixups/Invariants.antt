use Rattle.std.proofs.Common.{◌≡◌, ◌++◌, drop}
use Rattle.sc_gen.specs.Definitions as spec
use Rattle.sc_gen.proofs.definitions.data_fixups.Given as goal

abbrev pub invariant-loop-piece : goal.invariant-loop-piece
invariant-loop-piece l = l.fixups ++ spec.data_fixups l.literals.all.now l.at (drop l.piece-index l.pieces) ≡ spec.data_fixups l.literals.all.now 0 l.pieces
