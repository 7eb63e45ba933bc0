-- What is left to close gives what the whole gives.
use Rattle.std.proofs.Common.{◌≡◌, length}
use Rattle.sc_parse_grammar.specs.Machine as spec
use Rattle.sc_parse_grammar.proofs.close.settle.Given as goal

abbrev pub invariant-closing : goal.invariant-closing
invariant-closing l = spec.settle l.power l.frames l.x ≡ spec.settle l.fn.power l.fn.frames l.fn.x

abbrev pub decreases-closing : goal.decreases-closing
decreases-closing l = length l.frames
