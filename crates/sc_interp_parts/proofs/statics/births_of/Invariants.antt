use Rattle.std.proofs.Common.{◌≡◌, ◌++◌, drop}
use Rattle.sc_meaning.specs.Versions as spec
use Rattle.sc_interp_parts.proofs.statics.births_of.Given as goal

abbrev pub invariant-loop-t : goal.invariant-loop-t
invariant-loop-t l = (l.ids ++ spec.births_of (drop l.t-index l.texts)) ≡ spec.births_of l.texts
