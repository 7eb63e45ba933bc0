use Rattle.sc_build.proofs.Alikes.{both_alike}
use Rattle.sc_build.proofs.laws.objects_are_alike.Goals as goal

pub returns : goal.returns
returns c = both_alike
