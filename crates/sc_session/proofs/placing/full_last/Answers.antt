use Rattle.std.proofs.Common.{rules}
use Rattle.sc_session.proofs.RoomLemmas.{full_so}
use Rattle.sc_session.proofs.placing.full_last.Goals as goal

pub returns-in-Some : goal.returns-in-Some
returns-in-Some c = full_so c.args.placed.now c.args.functions.now c.in-Some.last.now c.full_area.result (search rules) c.full_area.ensures
