use Rattle.sc_mixed.proofs.Serving.{call_moved}
use Rattle.sc_mixed.proofs.serve.moved_by.Goals as goal

pub returns : goal.returns
returns c = λ s cs w work moved at.
    call_moved c.args.going.now cs w c.args.world.now s c.entry.result c.in_ok-turns.turns c.bytes_of-bytes.result c.is_back.result at c.entry.ensures c.in_ok-turns.ensures (c.bytes_of-bytes.ensures w work moved) c.is_back.ensures
