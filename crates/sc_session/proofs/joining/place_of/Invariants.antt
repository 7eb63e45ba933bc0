use Rattle.sc_session.proofs.PlaceLemmas.{IsBefore}
use Rattle.sc_session.proofs.joining.place_of.Given as goal

abbrev pub invariant-loop-i : goal.invariant-loop-i
invariant-loop-i l = IsBefore l.new l.i l.modules
