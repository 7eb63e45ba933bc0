use Rattle.std.proofs.Common.{◌≡◌, fold, map, drop}
use Rattle.sc_opt.specs.Uses.{use_of_piece, beside, all}
use Rattle.sc_opt.proofs.uses.use_of_pieces.Given as goal

-- what is to come stands beside what was seen
abbrev pub invariant-loop-piece : goal.invariant-loop-piece
invariant-loop-piece l = fold beside l.all (map (use_of_piece l.x) (drop l.piece-index l.pieces)) ≡ all (map (use_of_piece l.x) l.pieces)
