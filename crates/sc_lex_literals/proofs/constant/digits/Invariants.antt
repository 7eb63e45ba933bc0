-- What is left gives what the whole gives.
use Rattle.std.proofs.Common.{◌≡◌, ◌≤◌, length}
use Rattle.sc_lex_literals.specs.Constants as spec
use Rattle.sc_lex_literals.proofs.constant.digits.Given as goal

abbrev pub invariant-digits : goal.invariant-digits
invariant-digits l = record {
  whole : spec.digits l.base l.value l.left ≡ spec.digits l.base 0 l.fn.text;
  small : l.value ≤ 4294967296;
}

abbrev pub decreases-digits : goal.decreases-digits
decreases-digits l = length l.left
