use Rattle.sc_points.proofs.Frames.{line_acts}
use Rattle.sc_points.proofs.Lines.{goto_acts}
use Rattle.sc_points.proofs.Whole.{again_moves, while_moves}
use Rattle.sc_points.proofs.statements.lines_are_reached.Goals as goal

pub returns-clause-expression : goal.returns-clause-expression
returns-clause-expression c = line_acts

pub returns-clause-loop_line : goal.returns-clause-loop_line
returns-clause-loop_line c = while_moves

pub returns-clause-again : goal.returns-clause-again
returns-clause-again c = again_moves

pub returns-clause-goto : goal.returns-clause-goto
returns-clause-goto c = goto_acts
