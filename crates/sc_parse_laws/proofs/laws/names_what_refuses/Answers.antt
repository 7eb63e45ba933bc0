-- The laws are lemmas on lists.
use Rattle.sc_parse_laws.proofs.Expressions.{names_mark, names_limit}
use Rattle.sc_parse_laws.proofs.Whole.{names_no_mark, names_unit_mark, names_unit_limit, refuses_beyond}
use Rattle.sc_parse_laws.proofs.Crowded.{crowded_call, crowded_list}
use Rattle.sc_parse_laws.proofs.laws.names_what_refuses.Goals as goal

pub returns-clause-marks : goal.returns-clause-marks
returns-clause-marks c = λ names ts which l h. names_mark names ts which l h

pub returns-clause-limits : goal.returns-clause-limits
returns-clause-limits c = λ names ts which l h. names_limit names ts which l h

pub returns-clause-unit_marks : goal.returns-clause-unit_marks
returns-clause-unit_marks c = λ ts word l h. names_unit_mark ts word l h

pub returns-clause-unit_limits : goal.returns-clause-unit_limits
returns-clause-unit_limits c = λ ts word l h. names_unit_limit ts word l h

pub returns-clause-beyond : goal.returns-clause-beyond
returns-clause-beyond c = λ ts all d out. refuses_beyond ts all d out

pub returns-clause-faults : goal.returns-clause-faults
returns-clause-faults c = λ ts l h. names_no_mark ts l h

pub returns-clause-calls : goal.returns-clause-calls
returns-clause-calls c = λ ts v. crowded_call ts v

pub returns-clause-lists : goal.returns-clause-lists
returns-clause-lists c = λ ts v. crowded_list ts v
