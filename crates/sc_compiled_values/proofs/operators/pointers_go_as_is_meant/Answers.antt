use Rattle.sc_compiled_values.proofs.operators.pointers_go_as_is_meant.Goals as goal
use Rattle.sc_compiled_values.proofs.Pointers.{advances, met}
use Rattle.sc_compiled_values.proofs.Moving.{bytes_move}
use Rattle.sc_compiled_values.proofs.Comparing.{orders}

pub returns-clause-advances : goal.returns-clause-advances
returns-clause-advances c = advances

pub returns-clause-bytes : goal.returns-clause-bytes
returns-clause-bytes c = bytes_move

pub returns-clause-orders : goal.returns-clause-orders
returns-clause-orders c = orders

pub returns-clause-met : goal.returns-clause-met
returns-clause-met c = met
