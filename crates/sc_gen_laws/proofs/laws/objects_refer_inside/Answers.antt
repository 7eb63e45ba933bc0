use Rattle.sc_gen_laws.proofs.References.{refers_inside}
use Rattle.sc_gen_laws.proofs.laws.objects_refer_inside.Goals as goal

pub returns : goal.returns
returns c = refers_inside
