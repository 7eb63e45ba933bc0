use Rattle.std.proofs.Common.{◌≡◌, ◌++◌, drop}
use Rattle.sc_image.specs.Running as spec
use Rattle.sc_image.proofs.running.without.Given as goal

abbrev pub invariant-loop-entry : goal.invariant-loop-entry
invariant-loop-entry l = l.entries ++ spec.without l.name (drop l.entry-index l.placed) ≡ spec.without l.name l.placed
