use Rattle.sc_interp_world.proofs.Keeping.{moved_put}
use Rattle.sc_interp_world.proofs.held.Held.put.Goals as goal

pub returns : goal.returns
returns c =
    let s = c.self.inside in
    moved_put c.put.result s.shown c.args.id c.args.at c.as_slice.result.now c.args.new s.store c.put.new.self c.args.self.now c.self.view_is c.as_slice.ensures c.put.ensures
