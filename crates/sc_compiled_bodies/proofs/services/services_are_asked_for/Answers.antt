use Rattle.sc_compiled_bodies.proofs.Asking.{ecall_means}
use Rattle.sc_compiled_bodies.proofs.Tagging.{tag_means}
use Rattle.sc_compiled_bodies.proofs.services.services_are_asked_for.Goals as goal

pub returns-clause-asked : goal.returns-clause-asked
returns-clause-asked c = ecall_means

pub returns-clause-tags : goal.returns-clause-tags
returns-clause-tags c = tag_means
