use Rattle.sc_incr.proofs.Relocating.{patched}
use Rattle.sc_incr.proofs.patching.patch_entry.Goals as goal

pub returns : goal.returns
returns c = λ value h. patched c.args.entry.now c.placed.result.now c.positions-positions.result.now c.args.key.now c.args.base c.args.image.now c.patch_placed.new.image c.placed.ensures c.positions-positions.ensures c.patch_placed.ensures value h
