use Rattle.std.proofs.Common.{◌≡◌, drop, length}
use Rattle.sc_types.specs.Compatibility.{sides, same_parameters}
use Rattle.sc_types.proofs.compare.+types.Given as goal

abbrev pub invariant-parameters-loop-i : goal.invariant-parameters-loop-i
invariant-parameters-loop-i l =
    (same_parameters (sides l.one_module l.s l.t) (drop l.i l.ps) (drop l.i l.qs) ≡ same_parameters (sides l.one_module l.s l.t) l.ps l.qs)
    × (length l.ps ≡ length l.qs)
