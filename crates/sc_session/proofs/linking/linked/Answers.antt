use Rattle.std.proofs.Common.{map, subst, ◌∙◌}
use Rattle.sc_image.specs.Placing.{placed_modules}
use Rattle.sc_link.specs.Linked.{IsLinked}
use Rattle.sc_session.specs.Linking.{linking_of}
use Rattle.sc_session.proofs.linking.linked.Goals as goal

pub returns-in-Ok-image_of : goal.returns-in-Ok-image_of
returns-in-Ok-image_of c =
    subst (λ fs. IsLinked (placed_modules (map linking_of c.args.modules.now)) fs c.in-Ok-image_of.image) (c.as_slice-2.ensures ∙ c.in-Ok-functions_by.ensures)
    (subst (λ ms. IsLinked (placed_modules ms) c.as_slice-2.result.now c.in-Ok-image_of.image) (c.as_slice.ensures ∙ c.in-Ok.ensures) c.in-Ok-image_of.ensures.linked)
