use Rattle.sc_interp_world.proofs.Keeping.{tag_is}
use Rattle.sc_interp_world.proofs.held.Held.tag_at.Goals as goal

pub returns : goal.returns
returns c =
    let s = c.self.inside in
    tag_is s.shown s.store c.args.self.now c.args.address c.tag_at.result c.self.view_is c.tag_at.ensures
