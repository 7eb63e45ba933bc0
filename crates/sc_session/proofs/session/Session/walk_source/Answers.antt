use Rattle.std.proofs.Common.{refl, ap, length, ◌∙◌}
use Rattle.sc_session.specs.Changing.{caught_up}
use Rattle.sc_session.specs.Going.{in_state}
use Rattle.sc_session.specs.Plain.{Plain}
use Rattle.sc_session.proofs.SendingLemmas.{walk_told, walk_first, walk_lost, walk_unbegun, walk_untaken, lost_memory, lost_write}
use Rattle.sc_session.proofs.session.Session.walk_source.Goals as goal

pub returns-in_default-clause-walks : goal.returns-in_default-clause-walks
returns-in_default-clause-walks g c = walk_unbegun (g.K.Sink.written c.args.out.now) c.args.self.now c.args.self.now c.args.walk refl

pub returns-in_default-going_stops-clause-walks : goal.returns-in_default-going_stops-clause-walks
returns-in_default-going_stops-clause-walks g c = walk_unbegun (g.K.Sink.written c.args.out.now) c.args.self.now c.args.self.now c.args.walk refl

pub returns-in_default-take_run-clause-walks : goal.returns-in_default-take_run-clause-walks
returns-in_default-take_run-clause-walks g c = walk_untaken (g.K.Sink.written c.args.out.now) c.args.self.now c.take_run.new.self c.args.walk c.requires c.in_default-take_run.ensures

pub returns-in-Ok-gone-clause-walks : goal.returns-in-Ok-gone-clause-walks
returns-in-Ok-gone-clause-walks g c =
    walk_told (g.K.Sink.written c.args.out.now) (g.K.Sink.written c.gone.new.out) c.args.self.now c.take_run.new.self _ c.args.walk c.as_slice.result.now c.as_slice-2.result.now _ c.is_valued-valued.result
    c.in-Some.run' c.in-Ok-gone.told.text c.in-Ok-gone.told.state c.put_state.new.place
    c.in-Some.ensures
    (c.as_slice.ensures ∙ c.in-Ok.ensures)
    (c.as_slice-2.ensures ∙ c.in-Ok-going_stops.ensures)
    (ap (λ (p : Plain). p.limits.turns) c.self.view_is)
    c.is_valued-valued.ensures
    c.in-Ok-gone.ensures.went
    c.put_state.ensures (c.catch_up.ensures ∙ ap (λ p. in_state c.put_state.new.place (caught_up p)) c.self.view_is)

pub returns-in-NoMemory-clause-walks : goal.returns-in-NoMemory-clause-walks
returns-in-NoMemory-clause-walks g c =
    walk_lost (g.K.Sink.written c.args.out.now) (g.K.Sink.written c.gone.new.out) c.args.self.now c.take_run.new.self _ c.args.walk c.as_slice.result.now c.as_slice-2.result.now _
    c.in-Some.run' _ c.in-NoMemory.within
    c.in-Some.ensures
    (c.as_slice.ensures ∙ c.in-Ok.ensures)
    (c.as_slice-2.ensures ∙ c.in-Ok-going_stops.ensures)
    (ap (λ (p : Plain). p.limits.turns) c.self.view_is)
    (ap (λ (p : Plain). p.in_line) c.self.view_is)
    (ap (λ (p : Plain). record p { in_line = c.in-NoMemory.within }) c.self.view_is) (lost_memory _ _ _ _ _ _ c.in-NoMemory.is c.in-Err.ensures.lost)

pub returns-clause-walks : goal.returns-clause-walks
returns-clause-walks g c =
    walk_first (g.K.Sink.written c.args.out.now) (g.K.Sink.written c.gone.new.out) c.args.self.now c.take_run.new.self c.args.walk c.as_slice.result.now c.as_slice-2.result.now _
    c.in-Some.run'
    c.in-Some.ensures
    (c.as_slice.ensures ∙ c.in-Ok.ensures)
    (c.as_slice-2.ensures ∙ c.in-Ok-going_stops.ensures)
    (ap (λ (p : Plain). p.limits.turns) c.self.view_is)
    (lost_write _ _ _ _ _ _ c.in-Unsent.is c.in-Err.ensures.lost)
