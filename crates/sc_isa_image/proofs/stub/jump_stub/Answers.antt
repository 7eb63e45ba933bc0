use Rattle.std.proofs.Common.{arith}
use Rattle.sc_isa_image.proofs.Leads.{led-jump, parts-add}
use Rattle.sc_isa_image.proofs.stub.jump_stub.Goals as goal

pub returns-clause-leads : goal.returns-clause-leads
returns-clause-leads c = led-jump c.args.at (parts-add c.args.at (omega arith))
