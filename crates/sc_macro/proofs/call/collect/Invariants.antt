use Rattle.std.proofs.Common.{◌≡◌, [], length}
use Rattle.sc_macro.specs.Calls.{collect}
use Rattle.sc_macro.proofs.call.collect.Given as goal

abbrev pub invariant-collecting : goal.invariant-collecting
invariant-collecting l = collect l.depth l.reading.0 l.arguments l.reading.1 ≡ collect 0 [] [] l.fn.rest

abbrev pub decreases-collecting : goal.decreases-collecting
decreases-collecting l = length l.reading.1
