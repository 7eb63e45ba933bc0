use Rattle.std.proofs.Common.{◌≡◌, false, subst}
use Rattle.sc_session.specs.Mixing.{Relinks}
use Rattle.sc_session.proofs.RelinkingLemmas.{over_so}
use Rattle.sc_session.proofs.session.Session.go_over.Goals as goal

pub returns : goal.returns
returns c =
    over_so (λ i. i ≡ c.args.image) c.args.self.now _ c.gone_over-over.result c.put_state.new.place c.self.view_is
    (subst (λ s. Relinks (λ i. i ≡ c.args.image) false s c.gone_over-over.result) c.replace-state.ensures.value c.gone_over-over.ensures) c.put_state.ensures
