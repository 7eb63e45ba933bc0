use Rattle.std.proofs.Common.{arith}
use Rattle.sc_words.proofs.NumberLemmas.{numeral-lt}
use Rattle.sc_words.proofs.part.small_number_of.Goals as goal

pub overflow_cast-result : goal.overflow_cast-result
overflow_cast-result c = omega (arith, c.number_of.ensures, numeral-lt c.args.digits.now c.requires)
