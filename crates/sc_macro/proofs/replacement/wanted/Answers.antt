use Rattle.std.proofs.Common.{arith}
use Rattle.sc_macro.proofs.Chains.{next_blank, next_marked}
use Rattle.sc_macro.proofs.replacement.wanted.Goals as goal

pub loop-name-preserved : goal.loop-name-preserved
loop-name-preserved c = next_blank c.args.names.now c.loop-name._name-index c.loop-name.wanted c.push.new.self (omega arith) c.loop-name.invariant c.in_ok-push.ensures.ok

pub loop-chain-preserved : goal.loop-chain-preserved
loop-chain-preserved c = next_marked c.args.chains.now c.loop-chain.chain-index c.args.names.now c.loop-chain.wanted c.mark_wanted.new.wanted c.chain-item.result c.as_slice.result.now (omega arith) c.loop-chain.invariant c.chain-item.is c.as_slice.ensures c.mark_wanted.ensures
