use Rattle.sc_interp_world.proofs.Putting.{cells_seen}
use Rattle.sc_interp_world.proofs.held.Held.raw_cells.Goals as goal

pub returns : goal.returns
returns c =
    let s = c.self.inside in
    cells_seen c.raw_cells.result s.shown s.store c.args.self.now c.args.from c.args.n c.self.view_is c.raw_cells.ensures
