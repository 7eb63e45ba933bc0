use Rattle.sc_incr.proofs.Retiring.{patched-linked}
use Rattle.sc_incr.proofs.changing.settle.Goals as goal

pub returns : goal.returns
returns c = record {
  linked = patched-linked c.patches_over.ensures c.args.entries.now c.args.funs.now c.args.keys.now c.args.image.now c.patch_keys.new.image c.requires.settled.single c.requires.left c.patch_keys.ensures;
  settled = c.requires.settled;
}
