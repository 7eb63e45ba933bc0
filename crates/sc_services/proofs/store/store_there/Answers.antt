use Rattle.sc_services.proofs.Reading.{is_there}
use Rattle.sc_services.proofs.store.store_there.Goals as goal

pub returns-in_ok-store_over-in-Some : goal.returns-in_ok-store_over-in-Some
returns-in_ok-store_over-in-Some c = (is_there c.load.result _ c.in-Some.field-0 c.load.ensures c.in-Some.is, c.in_ok-store_over-in-Some.ensures)
