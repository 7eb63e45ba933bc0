use Rattle.std.proofs.Common.{ap, refl, sym, ◌∙◌}
use Rattle.sc_mixed.specs.Goes.{reaches_here}
use Rattle.sc_mixed.specs.Standing.{standing_on}
use Rattle.sc_mixed.specs.declared.broken.Break.TheVariants.{Meant}
use Rattle.sc_interp_access.specs.declared.stop.Stop.TheVariants as stop
use Rattle.sc_mixed.proofs.Reaching.{further_by, is_lost_at, over_at}
use Rattle.sc_mixed.proofs.turn.turns_taken.Goals as goal

pub loop-init : goal.loop-init
loop-init c = reaches_here

pub returns-in-Err : goal.returns-in-Err
returns-in-Err c =
    over_at c.args.texts.now c.args.image.now c.args.want.now (standing_on c.args.image.now c.args.calls.now c.args.world.now c.args.next.now c.args.first)
    c.want.inside.turns c.loop.took c.loop.shown c.loop.next c.loop.calls c.moved_on.new.calls c.loop.world c.moved_on.new.world c.moved_on.new.next c.moved_on.result c.in-Err.broken c.moved_on.new.took
    (ap (λ w. w.turns) c.want.view_is) c.loop.invariant (sym c.rests.ensures ∙ c.in-None.is) c.moved_on.ensures c.in-Err.is

pub loop-preserved : goal.loop-preserved
loop-preserved c =
    further_by c.args.texts.now c.args.image.now c.args.want.now (standing_on c.args.image.now c.args.calls.now c.args.world.now c.args.next.now c.args.first)
    c.want.inside.turns c.loop.took c.loop.shown c.loop.next c.loop.calls c.moved_on.new.calls c.loop.world c.moved_on.new.world c.moved_on.new.next c.moved_on.result c.in-Ok.now c.moved_on.new.took
    (ap (λ w. w.turns) c.want.view_is) c.loop.invariant (sym c.rests.ensures ∙ c.in-None.is) c.moved_on.ensures c.in-Ok.is

pub returns-in-None-rests : goal.returns-in-None-rests
returns-in-None-rests c =
    is_lost_at c.args.texts.now c.args.image.now c.args.want.now (standing_on c.args.image.now c.args.calls.now c.args.world.now c.args.next.now c.args.first)
    c.loop.took c.loop.next c.loop.next c.loop.calls c.loop.calls c.loop.world c.loop.world c.loop.shown (Meant stop.NoRoom) c.loop.invariant (sym c.rests-2.ensures ∙ c.in-None-rests.is) refl
