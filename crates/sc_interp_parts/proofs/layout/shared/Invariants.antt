use Rattle.std.proofs.Common.{◌≡◌, take}
use Rattle.sc_interp_parts.proofs.layout.shared.Given as goal

abbrev pub invariant-loop-key : goal.invariant-loop-key
invariant-loop-key l = l.all ≡ take l.key-index l.keys
