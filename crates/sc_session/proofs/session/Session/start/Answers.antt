use Rattle.std.proofs.Common.{refl, ap, ◌∙◌}
use Rattle.sc_session.specs.Going.{in_state}
use Rattle.sc_session.proofs.SendingLemmas.{begin_told, begin_first, begin_lost, begin_unbegun, lost_memory, lost_write}
use Rattle.sc_session.proofs.session.Session.start.Goals as goal

pub returns-in_default-clause-begins : goal.returns-in_default-clause-begins
returns-in_default-clause-begins g c = begin_unbegun (g.K.Sink.written c.args.out.now) c.args.self.now c.args.self.now c.args.key.now c.args.input refl

pub returns-in_default-going_stops-clause-begins : goal.returns-in_default-going_stops-clause-begins
returns-in_default-going_stops-clause-begins g c = begin_unbegun (g.K.Sink.written c.args.out.now) c.args.self.now c.args.self.now c.args.key.now c.args.input refl

pub returns-in_default-layout_heard-clause-begins : goal.returns-in_default-layout_heard-clause-begins
returns-in_default-layout_heard-clause-begins g c = begin_unbegun (g.K.Sink.written c.args.out.now) c.args.self.now c.args.self.now c.args.key.now c.args.input refl

pub returns-in_default-start-clause-begins : goal.returns-in_default-start-clause-begins
returns-in_default-start-clause-begins g c = begin_unbegun (g.K.Sink.written c.args.out.now) c.args.self.now c.args.self.now c.args.key.now c.args.input refl

pub returns-in-Ok-gone-clause-begins : goal.returns-in-Ok-gone-clause-begins
returns-in-Ok-gone-clause-begins g c =
    begin_told (g.K.Sink.written c.args.out.now) (g.K.Sink.written c.gone.new.out) c.args.self.now _ c.as_slice.result.now c.as_slice-2.result.now c.as_slice-3.result.now c.args.key.now c.from-stack.result c.from-heap.result c.self.inside.limits.turns c.is_valued-valued.result
    c.args.input c.in-Ok-start.run' c.in-Ok-gone.told.text c.in-Ok-gone.told.state c.put_state-in-Ok-gone.new.place
    (c.as_slice.ensures ∙ c.in-Ok.ensures)
    (c.as_slice-2.ensures ∙ c.in-Ok.ensures)
    (c.as_slice-3.ensures ∙ c.in-Ok-going_stops.ensures)
    (c.from-stack.ensures ∙ ap (λ p. p.limits.stack) c.self.view_is)
    (c.from-heap.ensures ∙ ap (λ p. p.limits.heap) c.self.view_is)
    (ap (λ p. p.limits.turns) c.self.view_is)
    c.is_valued-valued.ensures c.in-Ok-start.ensures.starts c.in-Ok-start.ensures.meant c.in-Ok-gone.ensures.went
    c.put_state-in-Ok-gone.ensures (ap (in_state c.put_state-in-Ok-gone.new.place) c.self.view_is)

pub returns-in-NoMemory-clause-begins : goal.returns-in-NoMemory-clause-begins
returns-in-NoMemory-clause-begins g c =
    begin_lost (g.K.Sink.written c.args.out.now) (g.K.Sink.written c.gone.new.out) c.args.self.now _ c.as_slice.result.now c.as_slice-2.result.now c.as_slice-3.result.now c.args.key.now c.from-stack.result c.from-heap.result c.self.inside.limits.turns
    c.args.input c.in-Ok-start.run' c.put_state.new.place c.self.inside.in_line c.in-NoMemory.within
    (c.as_slice.ensures ∙ c.in-Ok.ensures)
    (c.as_slice-2.ensures ∙ c.in-Ok.ensures)
    (c.as_slice-3.ensures ∙ c.in-Ok-going_stops.ensures)
    (c.from-stack.ensures ∙ ap (λ p. p.limits.stack) c.self.view_is)
    (c.from-heap.ensures ∙ ap (λ p. p.limits.heap) c.self.view_is)
    (ap (λ p. p.limits.turns) c.self.view_is)
    c.in-Ok-start.ensures.starts (ap (λ p. p.in_line) c.self.view_is) c.self.view_is c.put_state.ensures (lost_memory _ _ _ _ _ _ c.in-NoMemory.is c.in-Err.ensures.lost)

pub returns-clause-begins : goal.returns-clause-begins
returns-clause-begins g c =
    begin_first (g.K.Sink.written c.args.out.now) (g.K.Sink.written c.gone.new.out) c.args.self.now c.as_slice.result.now c.as_slice-2.result.now c.as_slice-3.result.now c.args.key.now c.from-stack.result c.from-heap.result c.self.inside.limits.turns
    c.args.input c.in-Ok-start.run'
    (c.as_slice.ensures ∙ c.in-Ok.ensures)
    (c.as_slice-2.ensures ∙ c.in-Ok.ensures)
    (c.as_slice-3.ensures ∙ c.in-Ok-going_stops.ensures)
    (c.from-stack.ensures ∙ ap (λ p. p.limits.stack) c.self.view_is)
    (c.from-heap.ensures ∙ ap (λ p. p.limits.heap) c.self.view_is)
    (ap (λ p. p.limits.turns) c.self.view_is)
    c.in-Ok-start.ensures.starts (lost_write _ _ _ _ _ _ c.in-Unsent.is c.in-Err.ensures.lost)
