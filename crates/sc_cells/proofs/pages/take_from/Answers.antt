use Rattle.sc_cells.proofs.Paged.{grown-more}
use Rattle.sc_cells.proofs.pages.take_from.Goals as goal

pub taking-preserved : goal.taking-preserved
taking-preserved c = grown-more c.args.pages.now.items c.taking.pages.items c.take_roomy.new.pages.items c.args.first c.taking.p c.taking.invariant c.take_roomy.ensures.grows c.in_ok-take_roomy.ensures.roomy
