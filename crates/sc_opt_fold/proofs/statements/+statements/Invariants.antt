use Rattle.std.proofs.Common.{◌≡◌, ◌++◌, drop, map}
use Rattle.sc_opt_fold.specs.Folded.{folded_statement}
use Rattle.sc_opt_fold.proofs.statements.+statements.Given as goal

abbrev pub invariant-folded_parts-loop-s : goal.invariant-folded_parts-loop-s
invariant-folded_parts-loop-s l = l.parts ++ map folded_statement (drop l.s-index l.ss) ≡ map folded_statement l.ss
