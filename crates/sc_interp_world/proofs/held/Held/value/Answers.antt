use Rattle.sc_interp_world.proofs.Keeping.{value_is}
use Rattle.sc_interp_world.proofs.held.Held.value.Goals as goal

pub returns : goal.returns
returns c =
    let s = c.self.inside in
    value_is c.value.result s.shown s.store c.args.self.now c.args.w.tag c.args.w.bits c.self.view_is c.value.ensures
