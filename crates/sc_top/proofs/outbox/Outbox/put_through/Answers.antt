use Rattle.sc_outside.specs.declared.sink.Sent.TheVariants as sent
use Rattle.sc_top.proofs.WaitingLemmas.{posts-through, partly-writes}
use Rattle.sc_top.proofs.outbox.Outbox.put_through.Goals as goal

pub returns-in-Done-clause-posts : goal.returns-in-Done-clause-posts
returns-in-Done-clause-posts g c =
    rw c.flush.ensures.emptied (posts-through c.write.result _ _ _ c.args.self.now c.args.bytes.now c.in-Done.ensures.bytes c.write.ensures.bytes)

pub returns-in-Failed-clause-posts : goal.returns-in-Failed-clause-posts
returns-in-Failed-clause-posts g c =
    rw c.flush.ensures.emptied (partly-writes sent.Failed _ _ c.args.self.now c.args.bytes.now c.in-Failed.ensures.bytes)

pub returns-in-NoMemory-clause-posts : goal.returns-in-NoMemory-clause-posts
returns-in-NoMemory-clause-posts g c =
    rw c.flush.ensures.emptied (partly-writes sent.NoMemory _ _ c.args.self.now c.args.bytes.now c.in-NoMemory.ensures.bytes)
