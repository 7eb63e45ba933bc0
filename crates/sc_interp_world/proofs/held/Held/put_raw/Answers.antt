use Rattle.sc_interp_world.proofs.Putting.{put_seen}
use Rattle.sc_interp_world.proofs.held.Held.put_raw.Goals as goal

pub returns : goal.returns
returns c =
    let s = c.self.inside in
    put_seen c.put_raw.result s.shown s.store c.put_raw.new.self c.args.self.now c.args.at c.args.cell c.self.view_is c.put_raw.ensures
