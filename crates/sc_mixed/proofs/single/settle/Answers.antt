use Rattle.std.proofs.Common.{subst, sym, ◌∙◌}
use Rattle.sc_mixed.specs.Parts.{came_to}
use Rattle.sc_mixed.specs.Single.{Settling, settling_here}
use Rattle.sc_mixed.specs.Standing.{standing_on}
use Rattle.sc_mixed.proofs.Singles.{settles_further, settles_lost, settles_over}
use Rattle.sc_mixed.proofs.single.settle.Goals as goal

pub loop-init : goal.loop-init
loop-init c = settling_here

pub returns-then-not-takes_between : goal.returns-then-not-takes_between
returns-then-not-takes_between c = record { moves = c.loop.invariant; ends = sym c.takes_between.ensures ∙ c.if-not-takes_between.true }

pub returns-in-Err : goal.returns-in-Err
returns-in-Err c =
    settles_over c.args.texts.now c.args.want.now c.args.image.now (standing_on c.args.image.now c.args.calls.now c.args.world.now c.args.next.now c.args.first)
    c.loop.calls c.moved_once.new.calls c.loop.world c.moved_once.new.world c.loop.next c.moved_once.new.next c.loop.shown c.moved_once.result c.in-Err.broken c.loop.invariant
    (sym c.takes_between.ensures ∙ c.if-not-takes_between.false) c.moved_once.ensures c.in-Err.is

pub loop-preserved : goal.loop-preserved
loop-preserved c =
    subst (λ r. Settling c.args.texts.now c.args.want.now (standing_on c.args.image.now c.args.calls.now c.args.world.now c.args.next.now c.args.first) (came_to c.args.image.now r c.moved_once.new.next c.moved_once.new.calls c.moved_once.new.world)) c.in-Ok.is
    (settles_further c.args.texts.now c.args.want.now c.args.image.now (standing_on c.args.image.now c.args.calls.now c.args.world.now c.args.next.now c.args.first)
    c.loop.calls c.moved_once.new.calls c.loop.world c.moved_once.new.world c.loop.next c.moved_once.new.next c.loop.shown c.moved_once.result c.loop.invariant
    (sym c.takes_between.ensures ∙ c.if-not-takes_between.false) c.moved_once.ensures)

pub returns-then-takes_between : goal.returns-then-takes_between
returns-then-takes_between c =
    settles_lost c.args.texts.now c.args.want.now c.args.image.now (standing_on c.args.image.now c.args.calls.now c.args.world.now c.args.next.now c.args.first) c.loop.calls c.loop.world c.loop.next c.loop.shown c.loop.invariant (sym c.takes_between-2.ensures ∙ c.if-takes_between.true)

pub returns-else-takes_between : goal.returns-else-takes_between
returns-else-takes_between c = record { moves = c.loop.invariant; ends = sym c.takes_between-2.ensures ∙ c.if-takes_between.false }
