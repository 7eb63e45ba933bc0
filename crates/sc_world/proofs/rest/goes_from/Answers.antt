use Rattle.sc_world.specs.Goes.{Goes, Leaves}
use Rattle.sc_world.specs.Sends.{Sends, SendsFirst, SendsSome, SendsTo}
use Rattle.sc_world.specs.Standing.{standing, state_of}
use Rattle.sc_world.specs.Turns.{standing_at}
use Rattle.sc_world.specs.declared.course.Course.TheVariants.{Over}
use Rattle.sc_world.proofs.Places.{goes_so, stays_over}
use Rattle.sc_world.proofs.Sending.{if_ok, match_as, sends_so, sends_first_so, stays_silent, ended_few}
use Rattle.sc_world.proofs.rest.goes_from.Goals as goal

pub returns-in-Over-clause-goes : goal.returns-in-Over-clause-goes
returns-in-Over-clause-goes g c = λ at before.
    stays_over c.args.texts.now c.args.want.now.stops c.args.want.now.walk c.args.want.now.turns c.args.course c.in-Over.ended c.args.callers.now c.args.world.now c.args.count.now c.in-Over.is

pub returns-in-Over-clause-sends : goal.returns-in-Over-clause-sends
returns-in-Over-clause-sends g c = λ at before all.
    stays_silent (g.K.Sink.written c.args.out.now) c.args.texts.now c.args.want.now.stops c.args.want.now.walk c.args.want.now.turns c.args.sent.now c.args.course c.in-Over.ended c.args.callers.now c.args.world.now c.args.count.now c.in-Over.is all

pub returns-in-On-clause-goes : goal.returns-in-On-clause-goes
returns-in-On-clause-goes g c = λ at before.
    if_ok (λ r. Leaves c.args.texts.now c.args.want.now (standing_at (state_of c.in-On.going c.args.callers.now c.args.world.now) c.in-On.shown c.args.count.now) r.halt (standing r.course c.goes_on.new.callers c.goes_on.new.world c.goes_on.new.count))
    (λ r. Goes c.args.texts.now c.args.want.now.stops c.args.want.now.walk c.args.want.now.turns (standing c.args.course c.args.callers.now c.args.world.now c.args.count.now) r.halt (standing r.course c.goes_on.new.callers c.goes_on.new.world c.goes_on.new.count))
    c.goes_on.result
    (λ r p. goes_so c.args.texts.now c.args.want.now c.args.course c.in-On.going c.in-On.shown c.args.callers.now c.args.world.now c.args.count.now r.halt _ c.in-On.is at before p)
    c.goes_on.ensures.goes

pub returns-in-On-clause-sends : goal.returns-in-On-clause-sends
returns-in-On-clause-sends g c = λ at before all.
    match_as
    (λ r. SendsTo (g.K.Sink.written c.args.out.now) (g.K.Sink.written c.goes_on.new.out) c.args.want.now c.args.texts.now (standing_at (state_of c.in-On.going c.args.callers.now c.args.world.now) c.in-On.shown c.args.count.now) c.goes_on.new.sent (standing r.course c.goes_on.new.callers c.goes_on.new.world c.goes_on.new.count))
    (λ r. Sends (g.K.Sink.written c.args.out.now) (g.K.Sink.written c.goes_on.new.out) c.args.texts.now c.args.want.now.stops c.args.want.now.walk c.args.want.now.turns (standing c.args.course c.args.callers.now c.args.world.now c.args.count.now) c.goes_on.new.sent (standing r.course c.goes_on.new.callers c.goes_on.new.world c.goes_on.new.count))
    (λ _. SendsFirst (g.K.Sink.written c.args.out.now) (g.K.Sink.written c.goes_on.new.out) c.args.want.now c.args.texts.now (standing_at (state_of c.in-On.going c.args.callers.now c.args.world.now) c.in-On.shown c.args.count.now))
    (λ _. SendsSome (g.K.Sink.written c.args.out.now) (g.K.Sink.written c.goes_on.new.out) c.args.texts.now c.args.want.now.stops c.args.want.now.walk c.args.want.now.turns (standing c.args.course c.args.callers.now c.args.world.now c.args.count.now))
    c.goes_on.result
    (λ r p. sends_so _ _ c.args.texts.now c.args.want.now c.args.course c.in-On.going c.in-On.shown c.args.callers.now c.args.world.now c.args.count.now _ _ c.in-On.is at before p)
    (λ e p. sends_first_so _ _ c.args.texts.now c.args.want.now c.args.course c.in-On.going c.in-On.shown c.args.callers.now c.args.world.now c.args.count.now c.in-On.is at before p)
    (c.goes_on.ensures.sends all)

pub returns-in-Over-clause-few : goal.returns-in-Over-clause-few
returns-in-Over-clause-few g c = λ at. ended_few c.args.sent.now (standing (Over c.in-Over.ended) c.args.callers.now c.args.world.now c.args.count.now)
