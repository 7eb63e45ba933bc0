use Rattle.std.proofs.Common.{◌≡◌, ◌+◌, length}
use Rattle.sc_meaning.specs.Outcomes.{and_then}
use Rattle.sc_meaning.specs.Printf as spec
use Rattle.sc_lib_bytes.specs.Texts.{before}
use Rattle.sc_lib.proofs.printf.formatted.Given as goal

abbrev pub invariant-loop-left : goal.invariant-loop-left
invariant-loop-left l = and_then (spec.formatted l.left l.g l.used l.rest l.world) (before l.text) ≡ spec.formatted (length l.format + 1) l.g 1 l.format l.fn.world

abbrev pub decreases-loop-left : goal.decreases-loop-left
decreases-loop-left l = l.left
