use Rattle.std.proofs.Common.{drop}
use Rattle.sc_session.proofs.PlacingLemmas.{VersionsTo}
use Rattle.sc_session.proofs.placing.all_placed.Given as goal

abbrev pub invariant-loop-new : goal.invariant-loop-new
invariant-loop-new l = VersionsTo l.functions l.first l.later l.modules l.all l.old (drop l.new-index l.later) l.placed
