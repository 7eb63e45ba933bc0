use Rattle.sc_check_body.specs.Locals.{one_declarator, declare_each}
use Rattle.sc_check_body.proofs.Turns.{turned}
use Rattle.sc_check_body.proofs.local.declare_each.Goals as goal

pub loop-one-preserved : goal.loop-one-preserved
loop-one-preserved c =
    turned (one_declarator c.args.storage c.args.base.now) c.args.list.now c.loop-one.one-index c.one-item.result tt c.in_ok-declare.field-0
    (c.loop-one.m, (c.loop-one.f, c.loop-one.inner)) (c.declare.new.m, (c.declare.new.f, c.declare.new.inner))
    (declare_each c.args.storage c.args.base.now c.args.list.now (c.args.m.now, (c.args.f.now, c.args.inner.now)))
    c.loop-one-test.true c.one-item.is c.loop-one.invariant c.in_ok-declare.ensures
