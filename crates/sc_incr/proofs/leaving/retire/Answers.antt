use Rattle.std.proofs.Common.{subst}
use Rattle.sc_unlink.specs.Taking.{ClearsJumps, TakesValues}
use Rattle.sc_incr.proofs.leaving.retire.Goals as goal

pub returns : goal.returns
returns c = record {
  between = c.clear_jumps.new.image;
  jumps = subst (λ xs. ClearsJumps xs c.args.image.now c.clear_jumps.new.image) c.as_slice.ensures.value c.clear_jumps.ensures;
  objects = subst (λ xs. TakesValues xs c.clear_jumps.new.image c.take_values.new.image) c.as_slice-2.ensures.value c.take_values.ensures;
}
