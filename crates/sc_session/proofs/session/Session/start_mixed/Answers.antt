use Rattle.std.proofs.Common.{subst}
use Rattle.sc_session.specs.Linking.{IsImage}
use Rattle.sc_session.specs.Plain.{Plain}
use Rattle.sc_session.proofs.session.Session.start_mixed.Goals as goal

pub start_in-requires : goal.start_in-requires
start_in-requires c =
    subst (λ (p : Plain). IsImage p.modules p.numbers c.in-Ok.image) c.self.view_is
    (subst (λ m. IsImage m c.self.inside.numbers c.in-Ok.image) c.as_slice.ensures.value c.in-Ok.ensures)
