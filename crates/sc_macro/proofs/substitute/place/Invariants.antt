use Rattle.std.proofs.Common.{◌≡◌, ◌++◌, length, map}
use Rattle.sc_macro.specs.Marks.{landed, respaced}
use Rattle.sc_macro.proofs.substitute.place.Given as goal

abbrev pub invariant-placing : goal.invariant-placing
invariant-placing l = map (landed l.name l.hide) (respaced l.name.space l.filled) ++ l.rest ≡ map (landed l.name l.hide) (respaced l.name.space l.fn.filled) ++ l.fn.rest

abbrev pub decreases-placing : goal.decreases-placing
decreases-placing l = length l.filled
