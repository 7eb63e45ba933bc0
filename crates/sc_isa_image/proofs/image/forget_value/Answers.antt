use Rattle.std.proofs.Common.{map, ap, ◌∙◌}
use Rattle.sc_isa_image.specs.Stubs.{face}
use Rattle.sc_isa_image.specs.Lookups.{key_eq}
use Rattle.sc_isa_image.proofs.Functions.{faces-set, without_value}
use Rattle.sc_isa_image.proofs.image.forget_value.Goals as goal

pub returns-in-Some-clause-faces : goal.returns-in-Some-clause-faces
returns-in-Some-clause-faces c =
    ap (map face) (c.get_mut.follows.holds (without_value c.in-Some.stub.now)).0 ∙ faces-set (key_eq c.args.k.now) c.args.functions.now.entries c.in-Some.stub.now c.in-Some.ensures.value
