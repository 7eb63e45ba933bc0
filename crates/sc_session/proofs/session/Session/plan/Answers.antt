use Rattle.std.proofs.Common.{ap, ◌∙◌}
use Rattle.sc_session.proofs.RelinkingLemmas.{plan_lacks, plan_within}
use Rattle.sc_session.proofs.session.Session.plan.Goals as goal

pub returns-in-Ok-placed_within-clause-room : goal.returns-in-Ok-placed_within-clause-room
returns-in-Ok-placed_within-clause-room c =
    plan_within c.args.self.now _ c.as_slice-past.result.now c.as_slice-modules.result.now c.as_slice.result.now c.self.view_is
    c.as_slice-past.ensures.value c.as_slice-modules.ensures.value (c.as_slice.ensures ∙ c.in-Ok.ensures) c.in-Ok-placed_within.ensures.room

pub returns-in-Err-clause-short : goal.returns-in-Err-clause-short
returns-in-Err-clause-short c =
    plan_lacks c.args.self.now _ c.as_slice-past.result.now c.as_slice-modules.result.now c.as_slice.result.now c.in-Err.fault c.self.view_is
    c.as_slice-past.ensures.value c.as_slice-modules.ensures.value (c.as_slice.ensures ∙ c.in-Ok.ensures) c.in-Err.ensures.short
