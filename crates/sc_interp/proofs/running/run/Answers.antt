use Rattle.std.proofs.Common.{refl}
use Rattle.sc_interp.specs.Ends.{start_of}
use Rattle.sc_interp.proofs.running.run.Goals as goal

pub returns : goal.returns
returns c =
    let s = start_of c.args.texts.now c.args.key.now c.args.limits.stack c.args.limits.heap c.args.input in
    c.end_told-ended.ensures c.args.limits.steps s c.started.new.world (c.started.ensures s refl refl c.in_ok-world.ensures)
