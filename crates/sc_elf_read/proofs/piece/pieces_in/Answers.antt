use Rattle.sc_elf_read.specs.Pieces.{pieces_in}
use Rattle.sc_elf_read.proofs.Loops.{pieces_step}
use Rattle.sc_elf_read.proofs.piece.pieces_in.Goals as goal

pub loop-turn-preserved : goal.loop-turn-preserved
loop-turn-preserved c =
    pieces_step c.args.count c.loop-turn.turn c.loop-turn.all c.push.new.self
    c.loop-turn.headers_left.now c.loop-turn.contents_left.now c.behind-headers_left.result.now c.behind_piece-contents_left.result.now
    c.in_ok-piece.piece (pieces_in c.args.count c.args.headers.now c.args.contents.now)
    c.loop-turn.invariant c.loop-turn-test.true c.in_ok-piece.ensures c.behind-headers_left.ensures c.behind_piece-contents_left.ensures c.in_ok-push.ensures.ok
