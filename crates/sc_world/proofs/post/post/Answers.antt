use Rattle.sc_world.proofs.post.post.Goals as goal

pub returns-in-Err-clause-posts : goal.returns-in-Err-clause-posts
returns-in-Err-clause-posts g c = λ first from posted.
    c.in-Err.ensures.writes first from c.args.sent.now c.args.bytes.now c.behind-waiting.ensures posted
