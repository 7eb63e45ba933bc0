-- What is left to end gives what the whole gives.
use Rattle.std.proofs.Common.{◌≡◌, length}
use Rattle.sc_parse_unit.specs.Machine as spec
use Rattle.sc_parse.proofs.stating.settle.Given as goal

abbrev pub invariant-ending : goal.invariant-ending
invariant-ending l = spec.settle l.other l.around l.last ≡ spec.settle l.fn.other l.fn.around l.fn.last

abbrev pub decreases-ending : goal.decreases-ending
decreases-ending l = length l.around
