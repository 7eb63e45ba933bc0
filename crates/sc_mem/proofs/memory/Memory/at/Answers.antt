use Rattle.std.proofs.Common.{subst}
use Rattle.sc_objects.specs.Numbered.{IsObjectAt}
use Rattle.sc_mem.specs.Safe.{Store}
use Rattle.sc_mem.proofs.memory.Memory.at.Goals as goal

pub returns-clause-object : goal.returns-clause-object
returns-clause-object c = subst (λ (s : Store). IsObjectAt s.flat.objects c.args.address c.at.result) c.self.view_is c.at.ensures.object
