use Rattle.sc_interp_world.proofs.Keeping.{word_is}
use Rattle.sc_interp_world.proofs.held.Held.word.Goals as goal

pub returns : goal.returns
returns c =
    let s = c.self.inside in
    word_is c.word.result s.shown s.store c.args.self.now c.args.v.now c.self.view_is c.word.ensures
