use Rattle.std.proofs.Common.{length, ap, refl, ◌∙◌}
use Rattle.sc_session.specs.Going.{state_after}
use Rattle.sc_session.proofs.SendingLemmas.{first_of, untold_so, untold_unfailed, went_behind}
use Rattle.sc_session.proofs.going.gone.Goals as goal

pub returns-in-Ok-told_text-clause-went : goal.returns-in-Ok-told_text-clause-went
returns-in-Ok-told_text-clause-went g c =
    went_behind (g.K.Sink.written c.args.out.now) (g.K.Sink.written c.go.new.out) c.args.texts.now c.args.stops.now c.args.walk c.args.turns c.args.valued c.args.run c.world.result.now
    (length c.output-before.result.now) c.in-Ok.halted.sent c.in-Ok.halted.halt c.go.new.self c.in-Ok-told_text.text c.state_after.result
    c.world.ensures (ap (λ bytes. length bytes) c.output-before.ensures) c.in-Ok.ensures.goes c.in-Ok.ensures.sends c.in-Ok.ensures.few c.go.ensures.meant c.in-Ok-told_text.ensures (c.state_after.ensures ∙ ap (state_after c.in-Ok.halted.halt) c.heard_in-heard.ensures)

pub returns-in-Err-told_text-clause-lost : goal.returns-in-Err-told_text-clause-lost
returns-in-Err-told_text-clause-lost g c =
    untold_so (g.K.Sink.written c.args.out.now) (g.K.Sink.written c.go.new.out) c.args.texts.now c.args.stops.now c.args.walk c.args.turns c.args.run c.world.result.now
    (length c.output-before.result.now) c.in-Ok.halted.sent c.in-Ok.halted.halt c.go.new.self c.args.within c.untold-lost.result
    c.world.ensures (ap (λ bytes. length bytes) c.output-before.ensures) c.in-Ok.ensures.goes c.in-Ok.ensures.sends c.untold-lost.ensures

pub returns-in-Err-clause-lost : goal.returns-in-Err-clause-lost
returns-in-Err-clause-lost g c =
    first_of (g.K.Sink.written c.args.out.now) (g.K.Sink.written c.go.new.out) c.args.texts.now c.args.stops.now c.args.walk c.args.turns c.args.run c.in-Err.ensures.sends

pub returns-in-Err-told_text-clause-failed : goal.returns-in-Err-told_text-clause-failed
returns-in-Err-told_text-clause-failed g c = λ failed.
    untold_unfailed _ c.go.new.self (length c.output-before.result.now) c.in-Ok.halted.sent c.args.within c.untold-lost.result _ c.untold-lost.ensures refl failed
