use Rattle.std.proofs.Common.{◌≡◌, [], length}
use Rattle.sc_macro.specs.Substitute.{filled}
use Rattle.sc_macro.proofs.substitute.filled.Given as goal

abbrev pub invariant-filling : goal.invariant-filling
invariant-filling l = filled l.name l.arguments l.whole l.out l.chains ≡ filled l.name l.arguments l.whole [] l.fn.chains

abbrev pub decreases-filling : goal.decreases-filling
decreases-filling l = length l.chains
