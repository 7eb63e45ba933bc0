use Rattle.sc_gen_code.proofs.Arguments.{incoming-step}
use Rattle.sc_gen_code.proofs.calls.incoming.Goals as goal

pub loop-i-preserved : goal.loop-i-preserved
loop-i-preserved c =
    incoming-step c.args.base c.loop-i.i c.min-count.result c.loop-i.code c.put_one.new.code _ _ c.loop-i-test.true c.in_ok-put_one.ensures c.load_argument.ensures c.loop-i.invariant
