use Rattle.std.proofs.Common.{◌≡◌, take}
use Rattle.sc_opt_fold.proofs.copies.contents_copied.Given as goal

abbrev pub invariant-loop-piece : goal.invariant-loop-piece
invariant-loop-piece l = l.all ≡ take l.piece-index l.pieces
