use Rattle.std.proofs.Common.{◌≡◌, ◌++◌, reverse}
use Rattle.sc_fmt.specs.Numbers.{digits_text}
use Rattle.sc_fmt.proofs.numbers.digits.Given as goal

-- the digits that are still to come, and then those found, last one first
abbrev pub invariant-loop-rest : goal.invariant-loop-rest
invariant-loop-rest l = digits_text l.p l.n ≡ digits_text l.p l.rest ++ reverse l.digits.items

abbrev pub decreases-loop-rest : goal.decreases-loop-rest
decreases-loop-rest l = l.rest
