use Rattle.std.proofs.Common.{◌++◌, ◌∷◌, [], None}
use Rattle.sc_base.specs.declared.memory.Kind.TheVariants.{Heap}
use Rattle.sc_meaning.specs.Beside.{born_in}
use Rattle.sc_meaning.specs.World.{fresh}
use Rattle.sc_interp_world.proofs.Keeping.{moved}
use Rattle.sc_interp_world.proofs.held.Held.allocate.Goals as goal

pub returns : goal.returns
returns c =
    let s = c.self.inside in
    moved c.allocate.result s.shown (λ os. os ++ fresh c.args.size Heap ∷ []) (born_in c.args.size Heap None) s.store c.allocate.new.self c.args.self.now c.self.view_is c.allocate.ensures
