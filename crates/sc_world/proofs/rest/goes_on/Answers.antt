use Rattle.std.proofs.Common.{ap, sym, length}
use Rattle.sc_interp_world.specs.Outputs.{output}
use Rattle.sc_world.specs.Standing.{state_of}
use Rattle.sc_world.specs.Turns.{standing_at}
use Rattle.sc_world.proofs.Sending.{written_there, leaves_by, sends_by, first_sends, few_left}
use Rattle.sc_world.proofs.rest.goes_on.Goals as goal

pub returns-in-Ok-clause-goes : goal.returns-in-Ok-clause-goes
returns-in-Ok-clause-goes g c =
    leaves_by c.args.want.now c.args.texts.now (standing_at (state_of c.args.going c.args.callers.now c.args.world.now) c.args.shown c.args.count.now)
    c.in-Ok.turned c.turns_taken.new.going c.turns_taken.new.callers c.turns_taken.new.world c.turns_taken.new.count _ _ c.in-Ok.ensures.comes (c.left_by.ensures c.turns_taken.new.count)

pub returns-in-Ok-clause-sends : goal.returns-in-Ok-clause-sends
returns-in-Ok-clause-sends g c = λ at.
    sends_by (g.K.Sink.written c.args.out.now) (g.K.Sink.written c.turns_taken.new.out) (length (output c.args.world.now.trail)) c.turns_taken.new.sent c.args.want.now c.args.texts.now
    (standing_at (state_of c.args.going c.args.callers.now c.args.world.now) c.args.shown c.args.count.now)
    c.in-Ok.turned c.turns_taken.new.going c.turns_taken.new.callers c.turns_taken.new.world c.turns_taken.new.count _ _
    (ap (λ bytes. length bytes) (sym (written_there c.args.going c.args.shown c.args.callers.now c.args.world.now c.args.count.now)))
    c.in-Ok.ensures.comes (c.left_by.ensures c.turns_taken.new.count) (c.in-Ok.ensures.sends at)

pub returns-in-Err-clause-sends : goal.returns-in-Err-clause-sends
returns-in-Err-clause-sends g c = λ at.
    first_sends (g.K.Sink.written c.args.out.now) (g.K.Sink.written c.turns_taken.new.out) c.args.want.now c.args.texts.now
    (standing_at (state_of c.args.going c.args.callers.now c.args.world.now) c.args.shown c.args.count.now)
    (length (output c.args.world.now.trail))
    (ap (λ bytes. length bytes) (sym (written_there c.args.going c.args.shown c.args.callers.now c.args.world.now c.args.count.now)))
    (c.in-Err.ensures.sends at)

pub returns-in-Ok-clause-few : goal.returns-in-Ok-clause-few
returns-in-Ok-clause-few g c = λ at.
    few_left c.in-Ok.turned c.turns_taken.new.going c.turns_taken.new.callers c.turns_taken.new.world c.turns_taken.new.count _ _ c.turns_taken.new.sent (c.left_by.ensures c.turns_taken.new.count) (c.in-Ok.ensures.few at)
