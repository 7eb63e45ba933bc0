use Rattle.sc_top.proofs.Hearing.{put_given, put_lost, puts_end}
use Rattle.sc_top.proofs.one.give_puts.Goals as goal

pub returns-then-not-give_note : goal.returns-then-not-give_note
returns-then-not-give_note g c = put_lost c.loop.next c.args.size c.args.count c.loop.counter c.args.word.now c.loop-test.true c.loop.invariant c.if-not-give_note.ensures

pub loop-preserved : goal.loop-preserved
loop-preserved g c = put_given c.loop.next c.args.size c.args.count c.loop.counter c.args.word.now c.loop-test.true c.loop.invariant c.if-not-give_note.ensures

pub returns : goal.returns
returns g c = puts_end c.loop.next c.args.size c.args.count c.loop.counter c.args.word.now c.loop-test.false c.loop.invariant
