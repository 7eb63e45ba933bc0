-- What is left gives what the whole gives.
use Rattle.std.proofs.Common.{◌≡◌, length}
use Rattle.sc_parse_tokens.specs.Literals as spec
use Rattle.sc_parse_tokens.proofs.literal.read_all.Given as goal

abbrev pub invariant-bytes : goal.invariant-bytes
invariant-bytes l = spec.read_all l.quote l.r l.left ≡ spec.read_all l.fn.quote spec.start l.fn.text

abbrev pub decreases-bytes : goal.decreases-bytes
decreases-bytes l = length l.left
