use Rattle.std.proofs.Common.{ap, ◌∙◌}
use Rattle.sc_session.specs.declared.linking.ImageFault.TheVariants as short
use Rattle.sc_session.proofs.RoomLemmas.{first_lacking, over_last, within_last}
use Rattle.sc_session.proofs.placing.placed_within.Goals as goal

pub returns-in-Err-clause-short : goal.returns-in-Err-clause-short
returns-in-Err-clause-short c = first_lacking c.args.past.now c.args.modules.now c.args.functions.now c.in-Err.fault c.lacking.result c.lacking.ensures c.in-Err.ensures.short

pub returns-in-None-clause-room : goal.returns-in-None-clause-room
returns-in-None-clause-room c = within_last c.args.past.now c.args.modules.now c.args.functions.now c.as_slice.result.now (c.as_slice.ensures ∙ c.in-Ok.ensures.ok) c.in-None.ensures

pub returns-in-Some-clause-short : goal.returns-in-Some-clause-short
returns-in-Some-clause-short c =
    over_last c.args.past.now c.args.modules.now c.args.functions.now c.as_slice.result.now c.in-Some.area _ (c.as_slice.ensures ∙ c.in-Ok.ensures.ok) c.in-Some.ensures (ap short.Space c.area_of.ensures)
