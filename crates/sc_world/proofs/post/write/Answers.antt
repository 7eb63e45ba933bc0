use Rattle.sc_world.proofs.Posting.{writes_some}
use Rattle.sc_world.proofs.post.write.Goals as goal

pub returns-in-Failed-clause-writes : goal.returns-in-Failed-clause-writes
returns-in-Failed-clause-writes g c = λ first from to all is posted.
    writes_some first (g.K.Sink.written c.args.out.now) (g.K.Sink.written c.write.new.self) from to all c.args.bytes.now is posted c.in-Failed.ensures.bytes

pub returns-in-NoMemory-clause-writes : goal.returns-in-NoMemory-clause-writes
returns-in-NoMemory-clause-writes g c = λ first from to all is posted.
    writes_some first (g.K.Sink.written c.args.out.now) (g.K.Sink.written c.write.new.self) from to all c.args.bytes.now is posted c.in-NoMemory.ensures.bytes
