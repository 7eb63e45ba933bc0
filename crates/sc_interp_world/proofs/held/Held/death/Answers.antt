use Rattle.sc_meaning.specs.Beside.{died_in}
use Rattle.sc_meaning.specs.World.{ended, object_at}
use Rattle.sc_interp_world.proofs.Keeping.{moved}
use Rattle.sc_interp_world.proofs.held.Held.death.Goals as goal

pub returns : goal.returns
returns c =
    let s = c.self.inside in
    moved c.death.result s.shown (λ os. ended os c.args.id (object_at os c.args.id)) (died_in c.args.id) s.store c.death.new.self c.args.self.now c.self.view_is c.death.ensures
