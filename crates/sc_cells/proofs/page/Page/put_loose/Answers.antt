use Rattle.sc_cells.proofs.Words.{loose_four}
use Rattle.sc_cells.proofs.page.Page.put_loose.Goals as goal

pub returns : goal.returns
returns c = loose_four c.self.inside.quads.items c.self.inside.loose.items c.args.self.now c.args.q c.args.four c.self.view_is c.requires.inside c.requires.four c.requires.room
