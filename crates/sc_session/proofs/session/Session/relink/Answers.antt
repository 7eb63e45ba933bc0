use Rattle.std.proofs.Common.{ap, false, refl, true, ◌∙◌}
use Rattle.sc_session_forms.specs.Forms.{are_sources}
use Rattle.sc_session.proofs.RelinkingLemmas.{becomes_same, needs_by, relinked}
use Rattle.sc_session.proofs.session.Session.relink.Goals as goal

pub returns-then-needs_image : goal.returns-then-needs_image
returns-then-needs_image c =
    relinked c.args.self.now c.relink_planned.new.self c.relink_planned.result
    (needs_by _ c.args.self.now c.as_slice.result.now c.are_sources.result c.needs_image.result true c.self.view_is c.as_slice.ensures.value
    (c.are_sources.ensures ∙ ap are_sources (c.as_slice-2.ensures ∙ c.in-Ok.ensures)) c.needs_image.ensures c.if-needs_image.true)
    c.relink_planned.ensures

pub returns : goal.returns
returns c =
    becomes_same c.args.self.now c.args.self.now
    (needs_by _ c.args.self.now c.as_slice.result.now c.are_sources.result c.needs_image.result false c.self.view_is c.as_slice.ensures.value
    (c.are_sources.ensures ∙ ap are_sources (c.as_slice-2.ensures ∙ c.in-Ok.ensures)) c.needs_image.ensures c.if-needs_image.false)
    refl
