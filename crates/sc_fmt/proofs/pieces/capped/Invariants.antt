use Rattle.std.proofs.Common.{◌≡◌, take}
use Rattle.sc_fmt.specs.Format.{capped}
use Rattle.sc_fmt.proofs.pieces.capped.Given as goal

-- the number of the digits so far
abbrev pub invariant-loop-c : goal.invariant-loop-c
invariant-loop-c l = l.n ≡ capped (take l.c-index l.digits)
