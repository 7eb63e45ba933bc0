use Rattle.std.proofs.Common.{◌≡◌, ◌++◌, length}
use Rattle.sc_macro.specs.Calls.{front, behind}
use Rattle.sc_macro.proofs.macros.Macros.skip.Given as goal

abbrev pub invariant-skipping : goal.invariant-skipping
invariant-skipping l = record {
  moved : l.out ++ front l.self.entries.entries l.rest ≡ l.fn.out ++ front l.self.entries.entries l.fn.rest;
  behind : behind l.self.entries.entries l.rest ≡ behind l.self.entries.entries l.fn.rest;
}

abbrev pub decreases-skipping : goal.decreases-skipping
decreases-skipping l = length l.rest
