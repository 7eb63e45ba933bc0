-- Moves led there.
use Rattle.sc_mixed.specs.Goes.{Reaches}
use Rattle.sc_mixed.specs.Standing.{standing_on}
use Rattle.sc_mixed.proofs.turn.turns_taken.Given as goal

abbrev pub invariant-loop : goal.invariant-loop
invariant-loop l = Reaches l.texts l.want (standing_on l.image l.fn.calls l.fn.world l.fn.next l.fn.first) l.took (standing_on l.image l.calls l.world l.next l.shown)
