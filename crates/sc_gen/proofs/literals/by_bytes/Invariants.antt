use Rattle.std.proofs.Common.{drop}
use Rattle.std.specs.HashMap.{get}
use Rattle.std.specs.Str.{bytes_eq}
use Rattle.sc_gen.specs.Finding.{FindsLiteralsAfter}
use Rattle.sc_gen.proofs.literals.by_bytes.Given as goal

abbrev pub invariant-loop-n : goal.invariant-loop-n
invariant-loop-n l = FindsLiteralsAfter (get bytes_eq l.places) l.n (drop l.n l.texts) l.texts
