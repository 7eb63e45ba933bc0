use Rattle.sc_workload.proofs.MadeLemmas.{folder_more}
use Rattle.sc_workload.proofs.folder.made_folder.Goals as goal

pub loop-index-preserved : goal.loop-index-preserved
loop-index-preserved c = folder_more c.args.count c.loop-index.index c.loop-index.files c.insert.new.self c.in_ok-name.name c.in_ok-text.text c.in_ok-name.ensures c.in_ok-text.ensures c.in_ok-insert.ensures.updates c.loop-index.invariant
