use Rattle.std.proofs.Common.{◌≡◌}
use Rattle.sc_meaning.specs.Library as spec
use Rattle.sc_lib_bytes.specs.Texts.{before}
use Rattle.sc_meaning.specs.Outcomes.{and_then}
use Rattle.sc_lib_bytes.proofs.bytes.text_upto.Given as goal

abbrev pub invariant-loop-left : goal.invariant-loop-left
invariant-loop-left l = and_then (spec.text_upto l.left l.p l.i l.world) (before l.text) ≡ spec.text_upto l.n l.p 0 l.fn.world

abbrev pub decreases-loop-left : goal.decreases-loop-left
decreases-loop-left l = l.left
