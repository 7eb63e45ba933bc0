use Rattle.sc_interp_world.proofs.Keeping.{objects_are}
use Rattle.sc_interp_world.proofs.held.Held.reveal.Goals as goal

pub returns : goal.returns
returns c =
    let s = c.self.inside in
    objects_are s.shown s.store c.args.self.now c.self.view_is
