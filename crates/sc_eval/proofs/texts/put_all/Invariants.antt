use Rattle.std.proofs.Common.{◌≡◌, ◌++◌, drop}
use Rattle.sc_eval.proofs.texts.put_all.Given as goal

abbrev pub invariant-loop-token : goal.invariant-loop-token
invariant-loop-token l = l.tokens ++ drop l.token-index l.more ≡ l.fn.tokens ++ l.more
