use Rattle.std.proofs.Common.{◌≡◌, take}
use Rattle.sc_pp_condition.specs.Terms.{terms_of}
use Rattle.sc_pp_condition.proofs.terms.terms_of.Given as goal

abbrev pub invariant-loop-token : goal.invariant-loop-token
invariant-loop-token l = l.terms ≡ terms_of (take l.token-index l.tokens)
