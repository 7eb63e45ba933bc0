use Rattle.sc_gen_expr.proofs.Appended.{appends-none, appended-step, appended-end}
use Rattle.sc_gen_expr.proofs.emit.write.Goals as goal

pub loop-s-init : goal.loop-s-init
loop-s-init c = appends-none c.args.at.now

pub loop-s-preserved : goal.loop-s-preserved
loop-s-preserved c =
    appended-step c.args.code.now c.loop-s.s-index c.s-item.result c.args.at.now c.loop-s.at c.write_one.new.at c.loop-s.invariant c.in_ok-write_one.ensures c.s-item.is c.loop-s-test.true

pub returns : goal.returns
returns c = appended-end c.args.code.now c.loop-s.s-index c.args.at.now c.loop-s.at c.loop-s.invariant c.loop-s-test.false
