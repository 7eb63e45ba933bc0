use Rattle.std.proofs.Common.{◌≡◌, drop}
use Rattle.sc_session_forms.specs.Differences as spec
use Rattle.sc_session_forms.proofs.differing.difference.Given as goal

-- the bytes before this place are the same
abbrev pub invariant-loop-i : goal.invariant-loop-i
invariant-loop-i l = spec.difference_from l.i (drop l.i l.left) l.rest ≡ spec.difference l.left l.right
