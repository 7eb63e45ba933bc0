use Rattle.sc_interp_world.proofs.Keeping.{is_shown}
use Rattle.sc_interp_world.proofs.held.Held.has_memory.Goals as goal

pub returns : goal.returns
returns c =
    let s = c.self.inside in
    is_shown s.shown s.store c.args.self.now c.self.view_is
