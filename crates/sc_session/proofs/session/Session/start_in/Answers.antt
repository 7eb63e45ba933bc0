use Rattle.std.proofs.Common.{ap, inl, refl, ◌∙◌}
use Rattle.sc_session.specs.declared.state.State.TheVariants as state
use Rattle.sc_session.proofs.MixingLemmas.{goes_begins, put_so, started_so}
use Rattle.sc_session.proofs.session.Session.start_in.Goals as goal

pub returns-in_default : goal.returns-in_default
returns-in_default c = inl refl

pub returns-in_default-going_stops : goal.returns-in_default-going_stops
returns-in_default-going_stops c = inl refl

pub returns-in_default-start : goal.returns-in_default-start
returns-in_default-start c = inl refl

pub returns-then-not-is_fresh : goal.returns-then-not-is_fresh
returns-then-not-is_fresh c = inl refl

pub returns : goal.returns
returns c =
    goes_begins c.args.self.now _ c.args.key.now c.args.input c.as_slice-2.result.now c.as_slice-3.result.now c.in-Ok-start.run' c.go_mixed.result c.go_mixed.new.self
    (put_so _ c.args.self.now c.put_state.new.place state.Ended c.self.view_is c.put_state.ensures)
    (c.as_slice-2.ensures ∙ c.in-Ok.ensures)
    (c.as_slice-3.ensures ∙ c.in-Ok-going_stops.ensures)
    (started_so c.args.self.now c.args.self.now c.args.image c.as_slice.result.now c.args.key.now c.from-stack.result c.from-heap.result c.args.input c.in-Ok-start.run' refl
    (c.as_slice.ensures ∙ c.in-Ok.ensures)
    (c.from-stack.ensures ∙ ap (λ p. p.limits.stack) c.self.view_is)
    (c.from-heap.ensures ∙ ap (λ p. p.limits.heap) c.self.view_is)
    c.requires c.in-Ok-start.ensures (c.is_fresh.ensures c.if-not-is_fresh.false))
    c.go_mixed.ensures
