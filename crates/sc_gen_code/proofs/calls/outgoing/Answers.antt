use Rattle.sc_gen_code.proofs.Arguments.{outgoing-step}
use Rattle.sc_gen_code.proofs.calls.outgoing.Goals as goal

pub loop-i-preserved : goal.loop-i-preserved
loop-i-preserved c =
    outgoing-step c.args.base c.loop-i.i c.saturating_sub-last.result c.loop-i.code c.put.new.code _ _ _ c.loop-i-test.true c.in_ok-put.ensures c.load_argument.ensures c.store_argument.ensures c.loop-i.invariant
