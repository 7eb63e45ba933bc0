use Rattle.std.proofs.Common.{◌≡◌, [], length}
use Rattle.sc_pp.specs.Directives.{angled}
use Rattle.sc_pp.proofs.include.angled.Given as goal

abbrev pub invariant-tokens : goal.invariant-tokens
invariant-tokens l = angled l.out.items l.left ≡ angled [] l.fn.tokens

abbrev pub decreases-tokens : goal.decreases-tokens
decreases-tokens l = length l.left
