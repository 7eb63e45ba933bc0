use Rattle.std.proofs.Common.{drop}
use Rattle.std.specs.HashMap.{get}
use Rattle.std.specs.Str.{bytes_eq}
use Rattle.sc_core_held.proofs.module.by_name.Given as goal
use Rattle.sc_core_held.specs.Finding.{FindsAfter}

abbrev pub invariant-loop-f : goal.invariant-loop-f
invariant-loop-f l = FindsAfter (get bytes_eq l.functions) (drop l.f-index l.funs) l.funs
