use Rattle.std.proofs.Common.{map, subst, ◌∙◌}
use Rattle.sc_image.specs.Refused.{IsShort}
use Rattle.sc_session.specs.Linking.{linking_of}
use Rattle.sc_session.proofs.PlacingLemmas.{fault_lacks}
use Rattle.sc_session.proofs.placing.first_placed.Goals as goal

pub returns-clause-short : goal.returns-clause-short
returns-clause-short c =
    fault_lacks (IsShort (map linking_of c.args.modules.now) c.args.functions.now) c.in-Err.fault c.image_fault.result c.image_fault.ensures
    (subst (λ ms. IsShort ms c.args.functions.now c.in-Err.fault) (c.as_slice.ensures ∙ c.in-Ok.ensures) c.in-Err.ensures.short)
