use Rattle.sc_isa_image.proofs.Functions.{is-known}
use Rattle.sc_isa_image.proofs.image.Image.is_function.Goals as goal

pub returns : goal.returns
returns c = is-known c.args.k.now c.args.self.now.functions.entries c.contains_key.result c.contains_key.ensures
