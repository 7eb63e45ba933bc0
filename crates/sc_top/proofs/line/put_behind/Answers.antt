use Rattle.sc_top.proofs.ReplyLemmas.{put_both, put_first}
use Rattle.sc_top.proofs.line.put_behind.Goals as goal

pub returns-in-Done-clause-posts : goal.returns-in-Done-clause-posts
returns-in-Done-clause-posts g c =
    put_both c.put-in-Done.result (g.K.Sink.written c.args.out.now) (g.K.Sink.written c.put.new.out) (g.K.Sink.written c.put-in-Done.new.out) c.args.outbox.now c.put.new.self c.put-in-Done.new.self c.args.end.now c.args.text.now
    c.in-Done.ensures.posts c.put-in-Done.ensures.posts

pub returns-in-Failed-clause-posts : goal.returns-in-Failed-clause-posts
returns-in-Failed-clause-posts g c = put_first (g.K.Sink.written c.args.out.now) (g.K.Sink.written c.put.new.out) c.args.outbox.now c.put.new.self c.args.end.now c.args.text.now c.in-Failed.ensures.posts

pub returns-in-NoMemory-clause-posts : goal.returns-in-NoMemory-clause-posts
returns-in-NoMemory-clause-posts g c = put_first (g.K.Sink.written c.args.out.now) (g.K.Sink.written c.put.new.out) c.args.outbox.now c.put.new.self c.args.end.now c.args.text.now c.in-NoMemory.ensures.posts
