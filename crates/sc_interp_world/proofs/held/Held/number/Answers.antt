use Rattle.sc_interp_world.proofs.Keeping.{numbered, numbered_more, numbered_none, numbered_nothing}
use Rattle.sc_interp_world.proofs.held.Held.number.Goals as goal

pub returns-clause-same : goal.returns-clause-same
returns-clause-same c =
    let s = c.self.inside in
    numbered s.shown s.store c.number.new.self c.args.self.now c.self.view_is c.number.ensures.same

pub returns-clause-none : goal.returns-clause-none
returns-clause-none c =
    let s = c.self.inside in
    numbered_none s.shown s.store c.number.new.self c.args.self.now c.self.view_is c.number.ensures.same

pub returns-clause-more : goal.returns-clause-more
returns-clause-more c =
    let s = c.self.inside in
    numbered_more c.number.result s.shown s.store c.number.new.self c.args.self.now c.args.more.now c.self.view_is c.number.ensures.more
