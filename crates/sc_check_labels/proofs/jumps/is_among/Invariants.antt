use Rattle.std.proofs.Common.{◌≡◌, drop}
use Rattle.std.specs.Prelude.{nat_eq}
use Rattle.std.specs.List.{list_any}
use Rattle.sc_check_labels.proofs.jumps.is_among.Given as goal

-- what is to come decides
abbrev pub invariant-loop-b : goal.invariant-loop-b
invariant-loop-b l = list_any (nat_eq l.block) (drop l.b-index l.blocks) ≡ list_any (nat_eq l.block) l.blocks
