use Rattle.std.proofs.Common.{◌≡◌, true, take}
use Rattle.std.specs.List.{list_all}
use Rattle.sc_gen.specs.Sections.{is_zero}
use Rattle.sc_gen.proofs.sections.are_zero.Given as goal

abbrev pub invariant-loop-piece : goal.invariant-loop-piece
invariant-loop-piece l = list_all is_zero (take l.piece-index l.pieces) ≡ true
