use Rattle.std.proofs.Common.{◌≡◌, drop}
use Rattle.sc_meaning.specs.Versions as spec
use Rattle.sc_core_held.proofs.text.object_in.Given as goal

abbrev pub invariant-loop-text : goal.invariant-loop-text
invariant-loop-text l = spec.object_in (drop l.text-index l.texts) l.key ≡ spec.object_in l.texts l.key
