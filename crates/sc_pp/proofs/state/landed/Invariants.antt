use Rattle.std.proofs.Common.{◌≡◌, ◌++◌, map, length}
use Rattle.sc_pp.specs.Directives as spec
use Rattle.sc_pp.proofs.state.landed.Given as goal

abbrev pub invariant-tokens : goal.invariant-tokens
invariant-tokens l = l.out ++ map (spec.landed l.place) l.rest ≡ map (spec.landed l.place) l.fn.tokens

abbrev pub decreases-tokens : goal.decreases-tokens
decreases-tokens l = length l.rest
