-- Moves that lie between led there.
use Rattle.sc_mixed.specs.Single.{Settling}
use Rattle.sc_mixed.specs.Standing.{standing_on}
use Rattle.sc_mixed.proofs.single.settle.Given as goal

abbrev pub invariant-loop : goal.invariant-loop
invariant-loop l = Settling l.texts l.want (standing_on l.image l.fn.calls l.fn.world l.fn.next l.fn.first) (standing_on l.image l.calls l.world l.next l.shown)
