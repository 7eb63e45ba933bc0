use Rattle.sc_pp.proofs.Units.{unit_read, unit_fails}
use Rattle.sc_pp.proofs.Naming.{inside_names}
use Rattle.sc_pp.proofs.unit.read_unit.Goals as goal

pub returns-in-Ok-read_lines-clause-gives : goal.returns-in-Ok-read_lines-clause-gives
returns-in-Ok-read_lines-clause-gives g c map k =
    unit_read map c.args.name.now c.args.text.now c.in-Ok-own_place.place c.in-Ok-scan.lines c.in-Ok.state c.read_lines.new.state c.in-Ok.ensures c.in-Ok-own_place.ensures c.in-Ok-scan.ensures.lines (c.in-Ok-read_lines.ensures.gives map k)

pub returns-in-Err-clause-gives : goal.returns-in-Err-clause-gives
returns-in-Err-clause-gives g c map k r q =
    unit_fails map c.args.name.now c.args.text.now c.in-Ok-own_place.place c.in-Ok-scan.lines c.in-Ok.state r c.in-Ok.ensures c.in-Ok-own_place.ensures c.in-Ok-scan.ensures.lines (c.in-Err.ensures.gives map k r q)

pub returns-in-Err-clause-names : goal.returns-in-Err-clause-names
returns-in-Err-clause-names g c map k =
    inside_names map c.args.name.now c.args.text.now c.in-Ok-own_place.place c.in-Ok-scan.lines c.in-Ok.state c.in-Err.failure c.in-Ok.ensures c.in-Ok-own_place.ensures c.in-Ok-scan.ensures.lines (c.in-Err.ensures.names map k)
