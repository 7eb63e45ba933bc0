use Rattle.sc_gen_laws.proofs.Files.{has_file}
use Rattle.sc_gen_laws.proofs.laws.objects_have_files.Goals as goal

pub returns : goal.returns
returns c = has_file
