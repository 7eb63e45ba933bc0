use Rattle.sc_outside.specs.declared.sink.Sent.TheVariants as sent
use Rattle.sc_top.specs.Transcript.{line_of}
use Rattle.sc_top.proofs.WaitingLemmas.{partly-writes}
use Rattle.sc_top.proofs.line.send.Goals as goal

pub returns-in-Done-clause-posts : goal.returns-in-Done-clause-posts
returns-in-Done-clause-posts g c =
    rw c.flush.ensures.emptied (partly-writes sent.Done _ _ c.args.outbox.now (line_of c.args.within c.args.answer.now) c.in-Done.ensures.bytes)

pub returns-in-Failed-clause-posts : goal.returns-in-Failed-clause-posts
returns-in-Failed-clause-posts g c =
    rw c.flush.ensures.emptied (partly-writes sent.Failed _ _ c.args.outbox.now (line_of c.args.within c.args.answer.now) c.in-Failed.ensures.bytes)

pub returns-in-NoMemory-clause-posts : goal.returns-in-NoMemory-clause-posts
returns-in-NoMemory-clause-posts g c =
    rw c.flush.ensures.emptied (partly-writes sent.NoMemory _ _ c.args.outbox.now (line_of c.args.within c.args.answer.now) c.in-NoMemory.ensures.bytes)
