use Rattle.std.proofs.Common.{ap}
use Rattle.sc_meaning.specs.World.{cells_at}
use Rattle.sc_interp_world.proofs.Keeping.{moved_put, objects_are}
use Rattle.sc_interp_world.proofs.held.Held.copy.Goals as goal

pub returns : goal.returns
returns c =
    let s = c.self.inside in
    let same = objects_are s.shown s.store c.args.self.now c.self.view_is in
    moved_put c.copy.result s.shown c.args.to c.args.at (cells_at s.store.objects c.args.from c.args.off c.args.n) (cells_at c.args.self.now.objects c.args.from c.args.off c.args.n) s.store c.copy.new.self c.args.self.now c.self.view_is
    (ap (λ os. cells_at os c.args.from c.args.off c.args.n) same) c.copy.ensures
