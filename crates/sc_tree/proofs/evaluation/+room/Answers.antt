-- Each argument is within the room of all, and one more is taken.
use Rattle.std.proofs.Common.{rules, arith, refl}
use Rattle.std.proofs.lemmas.Grind.{common_steps}
use Rattle.sc_tree.specs.declared.expression.Expr.{the_lemmas}
use Rattle.sc_tree.proofs.InOrder.{taken_at, within_at}
use Rattle.sc_tree.proofs.evaluation.+room.Goals as goal

pub arguments-overflow_add-before : goal.arguments-overflow_add-before
arguments-overflow_add-before t c =
    omega (arith, within_at c.args.args.now c.loop-arg.arg-index c.arg-item.result c.arg-item.result c.loop-arg-test.true c.arg-item.is refl, c.requires, c.loop-arg.invariant.0)

pub arguments-room-requires : goal.arguments-room-requires
arguments-room-requires t c = (
  search (rules, the_lemmas),
  omega (arith, within_at c.args.args.now c.loop-arg.arg-index c.arg-item.result c.get.result.now c.loop-arg-test.true c.arg-item.is c.get.ensures, c.requires),
)

pub arguments-overflow_add-room : goal.arguments-overflow_add-room
arguments-overflow_add-room t c =
    omega (arith, within_at c.args.args.now c.loop-arg.arg-index c.arg-item.result c.get.result.now c.loop-arg-test.true c.arg-item.is c.get.ensures, c.requires, c.room.ensures, c.loop-arg.invariant.0)

pub arguments-loop-arg-preserved : goal.arguments-loop-arg-preserved
arguments-loop-arg-preserved t c =
    let more = taken_at c.args.args.now c.loop-arg.arg-index c.arg-item.result c.get.result.now c.loop-arg-test.true c.arg-item.is c.get.ensures in
    let same = c.loop-arg.invariant.0 in
    let most = c.loop-arg.invariant.1 in
    (omega (arith, same), grind (arith, more, same, most, c.max-most.ensures, c.room.ensures, common_steps))
