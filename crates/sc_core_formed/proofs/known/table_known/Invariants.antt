use Rattle.std.proofs.Common.{◌≡◌, drop}
use Rattle.sc_core_formed.specs.Known.{table_known}
use Rattle.sc_core_formed.proofs.known.table_known.Given as goal

-- what is to come decides
abbrev pub invariant-loop-def : goal.invariant-loop-def
invariant-loop-def l = table_known l.structs (drop l.def-index l.defs) ≡ table_known l.structs l.defs
