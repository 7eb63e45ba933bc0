use Rattle.std.proofs.Common.{◌≡◌, drop}
use Rattle.sc_gen_code.specs.Styles as spec
use Rattle.sc_gen_code.proofs.style.found.Given as goal

abbrev pub invariant-loop-k : goal.invariant-loop-k
invariant-loop-k l = spec.found (drop l.k-index l.kept) l.offset ≡ spec.found l.kept l.offset
