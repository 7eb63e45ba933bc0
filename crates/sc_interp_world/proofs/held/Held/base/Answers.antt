use Rattle.std.proofs.Common.{List, subst}
use Rattle.std.specs.Prelude.{IfSome}
use Rattle.sc_meaning.specs.World.{Object}
use Rattle.sc_mem_store.specs.Living.{IsLiving}
use Rattle.sc_interp_world.proofs.Keeping.{objects_are}
use Rattle.sc_interp_world.proofs.held.Held.base.Goals as goal

pub returns : goal.returns
returns c =
    let s = c.self.inside in
    subst (λ (os : List Object). IfSome c.base.result (λ _. IsLiving os c.args.id)) (objects_are s.shown s.store c.args.self.now c.self.view_is) c.base.ensures
