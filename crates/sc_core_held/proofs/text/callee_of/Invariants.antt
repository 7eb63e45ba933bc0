use Rattle.std.proofs.Common.{◌≡◌, drop}
use Rattle.sc_meaning.specs.Versions as spec
use Rattle.sc_core_held.proofs.text.callee_of.Given as goal

abbrev pub invariant-loop-t : goal.invariant-loop-t
invariant-loop-t l = spec.callee_of (drop l.t-index l.texts) l.key ≡ spec.callee_of l.texts l.key
