use Rattle.std.proofs.Common.{rules, ◌≡◌, subst}
use Rattle.sc_services.specs.Arguments.{PutsOne}
use Rattle.sc_services.specs.Passing.{StoresOne}
use Rattle.sc_services.proofs.Given.{puts_on}
use Rattle.sc_services.proofs.Passing.{one_writes, stores_on}
use Rattle.sc_services.proofs.Tables.{same_word}
use Rattle.sc_services.proofs.Writing.{one_more}
use Rattle.sc_services.proofs.arguments.put_arguments.Goals as goal

pub loop-i-preserved : goal.loop-i-preserved
loop-i-preserved c =
    let at : c.in-Ok.k ≡ c.loop-i.i = search rules in
    let stored : StoresOne c.loop-i.i c.index-vs-i.result c.loop-i.world c.put_argument.new.world = subst (λ k. StoresOne k c.index-vs-i.result c.loop-i.world c.put_argument.new.world) at c.in_ok-put_argument.ensures.stores in
    record {
      puts = puts_on c.args.world.now c.loop-i.i c.args.vs.now c.index-vs-i.result c.args.regs.now c.loop-i.regs c.put_argument.new.regs c.loop-i-test.true c.index-vs-i.is
          (same_word c.args.world.now c.loop-i.world c.loop-i.i c.index-vs-i.result c.loop-i.regs c.put_argument.new.regs c.loop-i.invariant.writes (subst (λ k. PutsOne c.loop-i.world k c.index-vs-i.result c.loop-i.regs c.put_argument.new.regs) at c.in_ok-put_argument.ensures.puts)) c.loop-i.invariant.puts;
      stores = stores_on c.loop-i.i c.args.vs.now c.index-vs-i.result c.args.world.now c.loop-i.world c.put_argument.new.world c.loop-i-test.true c.index-vs-i.is stored c.loop-i.invariant.stores;
      writes = one_more c.args.world.now c.loop-i.world c.put_argument.new.world c.loop-i.invariant.writes (one_writes c.loop-i.i c.index-vs-i.result c.loop-i.world c.put_argument.new.world stored);
    }
