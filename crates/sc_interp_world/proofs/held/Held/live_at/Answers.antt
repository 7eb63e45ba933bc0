use Rattle.std.proofs.Common.{List, subst}
use Rattle.std.specs.Prelude.{IfSome}
use Rattle.sc_meaning.specs.World.{Object}
use Rattle.sc_mem_store.specs.Living.{IsLiveAt}
use Rattle.sc_interp_world.proofs.Keeping.{live_there, objects_are}
use Rattle.sc_interp_world.proofs.held.Held.live_at.Goals as goal

pub returns-clause-lives : goal.returns-clause-lives
returns-clause-lives c =
    let s = c.self.inside in
    subst (λ (os : List Object). IfSome c.live_at.result (λ p. IsLiveAt os p.id p.offset)) (objects_are s.shown s.store c.args.self.now c.self.view_is) c.live_at.ensures.lives

pub returns-clause-place : goal.returns-clause-place
returns-clause-place c =
    let s = c.self.inside in
    live_there c.live_at.result s.shown s.store c.args.self.now c.args.address c.self.view_is c.live_at.ensures.place
