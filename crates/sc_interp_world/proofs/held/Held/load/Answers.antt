use Rattle.sc_interp_world.proofs.Keeping.{read_is}
use Rattle.sc_interp_world.proofs.held.Held.load.Goals as goal

pub returns : goal.returns
returns c =
    let s = c.self.inside in
    read_is s.shown s.store c.args.self.now c.args.at c.args.size c.load_in.result c.self.view_is c.load_in.ensures.seen c.load_in.ensures.unseen
