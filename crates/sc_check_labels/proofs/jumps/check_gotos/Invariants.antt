use Rattle.std.proofs.Common.{◌≡◌, drop}
use Rattle.sc_check_labels.specs.Jumps.{each_jumps}
use Rattle.sc_check_labels.proofs.jumps.check_gotos.Given as goal

-- what is to come decides
abbrev pub invariant-loop-g : goal.invariant-loop-g
invariant-loop-g l = each_jumps l.f.blocks (drop l.g-index l.f.waiting) ≡ each_jumps l.f.blocks l.f.waiting
