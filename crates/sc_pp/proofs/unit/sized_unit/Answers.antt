use Rattle.std.proofs.Common.{arith}
use Rattle.sc_pp.proofs.Units.{finds_short}
use Rattle.sc_pp.proofs.Naming.{short_names}
use Rattle.sc_pp.proofs.unit.sized_unit.Goals as goal

pub returns-clause-gives : goal.returns-clause-gives
returns-clause-gives g c map k = finds_short map c.args.name.now c.args.text.now c.read_unit.result (omega arith) (c.read_unit.ensures.gives map k)

pub returns-clause-names : goal.returns-clause-names
returns-clause-names g c map k = short_names map c.args.name.now c.args.text.now c.read_unit.result (omega arith) (c.read_unit.ensures.names map k)
