use Rattle.std.proofs.Common.{◌≡◌, drop}
use Rattle.sc_meaning.specs.Versions as spec
use Rattle.sc_interp_changes.proofs.contents.same_pieces.Given as goal

abbrev pub invariant-loop-a : goal.invariant-loop-a
invariant-loop-a l = spec.same_pieces (drop l.a-index l.left) l.rest ≡ spec.same_pieces l.left l.right
