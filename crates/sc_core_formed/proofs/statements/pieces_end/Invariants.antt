use Rattle.std.proofs.Common.{◌≡◌, drop}
use Rattle.sc_core_formed.specs.Open.{numbers}
use Rattle.sc_core_formed.specs.Statements.{pieces_end}
use Rattle.sc_core_formed.proofs.statements.pieces_end.Given as goal

-- what is to come decides
abbrev pub invariant-loop-piece : goal.invariant-loop-piece
invariant-loop-piece l =
    pieces_end l.m.core.now l.f (numbers l.around) l.object.of l.object.slot.size l.end (drop l.piece-index l.pieces)
    ≡ pieces_end l.m.core.now l.f (numbers l.around) l.object.of l.object.slot.size 0 l.pieces
