use Rattle.std.proofs.Common.{◌++◌, ◌∷◌, [], Some}
use Rattle.sc_meaning.specs.Beside.{born_in}
use Rattle.sc_meaning.specs.World.{fresh}
use Rattle.sc_interp_world.proofs.Keeping.{moved}
use Rattle.sc_interp_world.proofs.held.Held.birth.Goals as goal

pub returns : goal.returns
returns c =
    let s = c.self.inside in
    moved c.birth.result s.shown (λ os. os ++ fresh c.args.size c.args.kind ∷ []) (born_in c.args.size c.args.kind (Some c.args.base)) s.store c.birth.new.self c.args.self.now c.self.view_is c.birth.ensures.ok
