use Rattle.std.proofs.Common.{drop}
use Rattle.std.specs.HashMap.{get}
use Rattle.sc_gen_expr.specs.Words.{target_eq}
use Rattle.sc_gen.specs.Finding.{FindsHomesAfter}
use Rattle.sc_gen.proofs.symbols.by_target.Given as goal

abbrev pub invariant-loop-n : goal.invariant-loop-n
invariant-loop-n l = FindsHomesAfter (get target_eq l.homes) l.n (drop l.n l.all) l.all
