use Rattle.sc_macro.proofs.Readings.{not_empty}
use Rattle.sc_macro.proofs.waiting.Argument.is_empty.Goals as goal

pub returns-in-Some : goal.returns-in-Some
returns-in-Some c = not_empty c.self.inside.made c.as_slice.result.now c.self.inside.given.now _ _ _ c.as_slice.ensures c.in-Some.ensures.cases.0 c.self.view_is
