use Rattle.std.proofs.Common.{◌≡◌, length}
use Rattle.sc_pp.specs.Lines as spec
use Rattle.sc_pp.proofs.splitter.split.Given as goal

abbrev pub invariant-tokens : goal.invariant-tokens
invariant-tokens l = spec.split l.splitter l.rest ≡ spec.split spec.start l.fn.tokens

abbrev pub decreases-tokens : goal.decreases-tokens
decreases-tokens l = length l.rest
