use Rattle.sc_compiled_bodies.proofs.Simple.{case_runs, default_runs, empty_runs, expression_runs, label_runs}
use Rattle.sc_compiled_bodies.proofs.Choosing.{if_else_runs, if_runs}
use Rattle.sc_compiled_bodies.proofs.Jumping.{break_runs, continue_runs, goto_runs, return_runs, return_value_runs}
use Rattle.sc_compiled_bodies.proofs.statements.statements_do_what_is_meant.Goals as goal

pub returns-clause-expression : goal.returns-clause-expression
returns-clause-expression c = expression_runs

pub returns-clause-empty : goal.returns-clause-empty
returns-clause-empty c = empty_runs

pub returns-clause-case : goal.returns-clause-case
returns-clause-case c = case_runs

pub returns-clause-otherwise : goal.returns-clause-otherwise
returns-clause-otherwise c = default_runs

pub returns-clause-label : goal.returns-clause-label
returns-clause-label c = label_runs

pub returns-clause-branch : goal.returns-clause-branch
returns-clause-branch c = if_runs

pub returns-clause-choice : goal.returns-clause-choice
returns-clause-choice c = if_else_runs

pub returns-clause-breaking : goal.returns-clause-breaking
returns-clause-breaking c = break_runs

pub returns-clause-continuing : goal.returns-clause-continuing
returns-clause-continuing c = continue_runs

pub returns-clause-going : goal.returns-clause-going
returns-clause-going c = goto_runs

pub returns-clause-returning : goal.returns-clause-returning
returns-clause-returning c = return_runs

pub returns-clause-value : goal.returns-clause-value
returns-clause-value c = return_value_runs
