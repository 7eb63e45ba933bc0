use Rattle.std.proofs.Common.{◌≡◌, [], length}
use Rattle.sc_macro.specs.Define.{listed}
use Rattle.sc_macro.proofs.define.listed.Given as goal

abbrev pub invariant-listing : goal.invariant-listing
invariant-listing l = listed l.names.keys l.rest ≡ listed [] l.fn.tokens

abbrev pub decreases-listing : goal.decreases-listing
decreases-listing l = length l.rest
