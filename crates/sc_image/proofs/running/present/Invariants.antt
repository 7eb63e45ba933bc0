use Rattle.std.proofs.Common.{◌≡◌, drop}
use Rattle.sc_image.specs.Running as spec
use Rattle.sc_image.proofs.running.present.Given as goal

abbrev pub invariant-loop-entry : goal.invariant-loop-entry
invariant-loop-entry l = spec.present l.name (drop l.entry-index l.placed) ≡ spec.present l.name l.placed
