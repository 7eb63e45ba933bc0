use Rattle.std.proofs.Common.{◌≡◌, take}
use Rattle.sc_image.proofs.running.copies.Given as goal

abbrev pub invariant-loop-entry : goal.invariant-loop-entry
invariant-loop-entry l = l.entries ≡ take l.entry-index l.placed
