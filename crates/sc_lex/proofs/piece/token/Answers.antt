use Rattle.sc_lex.proofs.Longest.{longest_some}
use Rattle.std.proofs.Common.{sym, ◌∙◌}
use Rattle.sc_lex.proofs.piece.token.Goals as goal

pub returns-in-Some-clause-within : goal.returns-in-Some-clause-within
returns-in-Some-clause-within c = longest_some c.args.marks.now (c.in-Some.n, c.in-Some.kind) (sym c.longest-best.ensures.best ∙ c.in-Some.is)
