use Rattle.sc_meaning.specs.Classes.{class_of}
use Rattle.sc_lib_bytes.proofs.Mores.{class_here, class_behind, class_last}
use Rattle.sc_lib_bytes.proofs.heap.class_of.Goals as goal

pub returns-then-from-block_size-clause-class : goal.returns-then-from-block_size-clause-class
returns-then-from-block_size-clause-class c =
    class_here c.loop-k.k c.args.n c.from.result c.block_size.result (class_of c.args.n) c.loop-k-test.true c.loop-k.invariant c.from.ensures c.block_size.ensures c.if-from-block_size.true

pub loop-k-preserved : goal.loop-k-preserved
loop-k-preserved c =
    class_behind c.loop-k.k c.args.n c.from.result c.block_size.result (class_of c.args.n) c.loop-k-test.true c.loop-k.invariant c.from.ensures c.block_size.ensures c.if-from-block_size.false

pub returns-clause-class : goal.returns-clause-class
returns-clause-class c =
    class_last c.loop-k.k c.args.n (class_of c.args.n) c.loop-k-test.false c.loop-k.auto.k-end c.loop-k.invariant
