use Rattle.std.proofs.Common.{◌≡◌, drop}
use Rattle.sc_check_linkage.specs.Linkage.{finish}
use Rattle.sc_check_linkage.proofs.Finishing.{rest}
use Rattle.sc_check_linkage.proofs.link.Links.finish.Given as goal

abbrev pub invariant-loop-l : goal.invariant-loop-l
invariant-loop-l l = rest l.structs (drop l.l-index l.l-items) l.all ≡ finish l.structs l.l-items
