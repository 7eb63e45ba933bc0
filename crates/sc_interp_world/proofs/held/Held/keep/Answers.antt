use Rattle.sc_interp_world.proofs.Keeping.{kept_is, kept_place}
use Rattle.sc_interp_world.proofs.held.Held.keep.Goals as goal

pub returns-clause-kept : goal.returns-clause-kept
returns-clause-kept c =
    let s = c.self.inside in
    kept_is c.keep_in.result s.shown s.store c.keep_in.new.store c.args.self.now c.args.at c.args.size c.args.w c.self.view_is c.keep_in.ensures.kept

pub returns-clause-place : goal.returns-clause-place
returns-clause-place c =
    let s = c.self.inside in
    kept_place c.keep_in.result s.shown s.store c.args.self.now c.args.at c.args.size c.self.view_is c.keep_in.ensures.place
