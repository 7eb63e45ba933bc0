use Rattle.std.proofs.Common.{sym, ◌∙◌}
use Rattle.sc_session.proofs.SendingLemmas.{known_end, known_on}
use Rattle.sc_session.proofs.going.is_known.Goals as goal

pub returns-in-None : goal.returns-in-None
returns-in-None c = λ yes. known_on c.args.run.now c.in-None.ensures

pub returns-in-Some : goal.returns-in-Some
returns-in-Some c = λ yes. known_end c.args.run.now c.in-Some.ended.now c.in-Some.ensures (sym c.is_told.ensures ∙ yes)
