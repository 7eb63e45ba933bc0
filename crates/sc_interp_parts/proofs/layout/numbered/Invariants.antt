use Rattle.std.proofs.Common.{◌≡◌, [], drop}
use Rattle.sc_interp_parts.specs.Layouts as spec
use Rattle.sc_interp_parts.proofs.layout.numbered.Given as goal

abbrev pub invariant-loop-t : goal.invariant-loop-t
invariant-loop-t l = spec.numbered l.numbers (drop l.t-index l.texts) ≡ spec.numbered [] l.texts
