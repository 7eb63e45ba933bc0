use Rattle.std.proofs.Common.{◌≡◌, ◌++◌, ◌-◌}
use Rattle.sc_elf_read.specs.Pieces.{pieces_in}
use Rattle.sc_elf_read.proofs.piece.pieces_in.Given as goal

abbrev pub invariant-loop-turn : goal.invariant-loop-turn
invariant-loop-turn l = l.all ++ pieces_in (l.count - l.turn) l.headers_left l.contents_left ≡ pieces_in l.count l.headers l.contents
