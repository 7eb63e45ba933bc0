use Rattle.std.proofs.Common.{◌≡◌, drop}
use Rattle.std.specs.Option.{option_or}
use Rattle.sc_gen_body.specs.Jumps.{labelled}
use Rattle.sc_gen_body.proofs.jumps.labelled.Given as goal

abbrev pub invariant-loop-l : goal.invariant-loop-l
invariant-loop-l l = option_or (labelled l.label (drop l.l-index l.labels)) l.found ≡ labelled l.label l.labels
