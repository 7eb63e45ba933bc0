-- The laws are lemmas on lists.
use Rattle.sc_parse_unit.proofs.Answers.{found, fails}
use Rattle.sc_parse_unit.proofs.Taken.{taken}
use Rattle.sc_parse_unit.proofs.laws.reads_units.Goals as goal

pub returns-clause-found : goal.returns-clause-found
returns-clause-found c = λ ts all d w. found ts all d w

pub returns-clause-refused : goal.returns-clause-refused
returns-clause-refused c = λ ts l h. fails ts l h

pub returns-clause-taken : goal.returns-clause-taken
returns-clause-taken c = λ ts all h. taken ts all h
