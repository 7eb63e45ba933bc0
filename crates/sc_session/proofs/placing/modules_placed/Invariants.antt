use Rattle.std.proofs.Common.{drop}
use Rattle.sc_session.proofs.PlacingLemmas.{ModulesTo}
use Rattle.sc_session.proofs.placing.modules_placed.Given as goal

abbrev pub invariant-loop-p : goal.invariant-loop-p
invariant-loop-p l = ModulesTo l.old l.functions l.kept l.new l.placed (drop l.p-index l.new) l.next
