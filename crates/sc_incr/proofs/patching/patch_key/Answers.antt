use Rattle.std.proofs.Common.{◌∙◌, ap, sym}
use Rattle.sc_link.specs.Linked.{or_zero}
use Rattle.sc_incr.proofs.patching.patch_key.Goals as goal

pub returns : goal.returns
returns c = λ value h. c.patch_entries.ensures value (ap or_zero (sym (h c.args.key.now)) ∙ (ap or_zero (sym c.value.ensures) ∙ sym c.or_zero-base.ensures))
