use Rattle.std.proofs.Common.{◌≡◌, ◌++◌, drop}
use Rattle.sc_pp.specs.Lines as spec
use Rattle.sc_pp.proofs.splitter.append_front.Given as goal

abbrev pub invariant-loop-token : goal.invariant-loop-token
invariant-loop-token l = l.run ++ spec.front (drop l.token-index l.line) ≡ l.fn.run ++ spec.front l.line
