use Rattle.sc_core_formed.proofs.Lengths.{parameters-length}
use Rattle.sc_core_formed.proofs.frames.parameters.Goals as goal

pub returns-then-params-autos : goal.returns-then-params-autos
returns-then-params-autos c = parameters-length c.args.structs.now c.args.params.now c.args.autos.now c.if-params-autos.true
