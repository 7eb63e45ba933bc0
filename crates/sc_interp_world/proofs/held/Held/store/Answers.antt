use Rattle.std.proofs.Common.{refl}
use Rattle.sc_meaning.specs.Values.{cells_of}
use Rattle.sc_interp_world.proofs.Keeping.{moved_put}
use Rattle.sc_interp_world.proofs.held.Held.store.Goals as goal

pub returns : goal.returns
returns c =
    let s = c.self.inside in
    let cells = cells_of c.args.n c.args.v.now in
    moved_put c.store.result s.shown c.args.id c.args.at cells cells s.store c.store.new.self c.args.self.now c.self.view_is refl c.store.ensures
