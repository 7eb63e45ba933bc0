use Rattle.sc_core_formed.proofs.Lengths.{types-length}
use Rattle.sc_core_formed.proofs.module.parameters.Goals as goal

pub returns-then-ps-qs : goal.returns-then-ps-qs
returns-then-ps-qs c = types-length c.args.structs.now c.args.ps.now c.args.qs.now c.if-ps-qs.true
