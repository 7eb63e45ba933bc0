use Rattle.std.proofs.Common.{◌≡◌, map, drop}
use Rattle.sc_core_needs.specs.Needs.{need_of_piece, beside, all}
use Rattle.sc_core_needs.proofs.needs.pieces.Given as goal

-- what is to come stands beside what was seen
abbrev pub invariant-loop-piece : goal.invariant-loop-piece
invariant-loop-piece l = beside l.most (all (map need_of_piece (drop l.piece-index l.pieces))) ≡ all (map need_of_piece l.pieces)
