use Rattle.sc_session.proofs.PlacingLemmas.{module_lacks, module_ok}
use Rattle.sc_session.proofs.placing.module_placed.Goals as goal

pub returns-clause-ok : goal.returns-clause-ok
returns-clause-ok c = module_ok c.args.old.now c.args.p.now c.args.functions.now c.args.kept.now c.args.placed.now c.way_of-way.result c.way_of-way.ensures c.placed_so.result c.placed_so.ensures.ok

pub returns-clause-short : goal.returns-clause-short
returns-clause-short c = module_lacks c.args.old.now c.args.p.now c.args.functions.now c.args.kept.now c.args.placed.now c.way_of-way.result c.way_of-way.ensures c.placed_so.result c.placed_so.ensures.short
