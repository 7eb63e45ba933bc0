use Rattle.std.proofs.Common.{◌≡◌, drop}
use Rattle.sc_lex.specs.Tokens as spec
use Rattle.sc_lex.proofs.lexing.refusal_in.Given as goal

abbrev pub invariant-loop-token : goal.invariant-loop-token
invariant-loop-token l = spec.refusal_in (drop l.token-index l.tokens) l.unclosed ≡ spec.refusal_in l.tokens l.unclosed
