use Rattle.std.proofs.Common.{◌≡◌, drop}
use Rattle.sc_meaning.specs.Statements as spec
use Rattle.sc_interp_body.proofs.ways.place_of.Given as goal

abbrev pub invariant-loop-l : goal.invariant-loop-l
invariant-loop-l l = spec.place_of l.k (drop l.l-index l.labels) ≡ spec.place_of l.k l.labels
