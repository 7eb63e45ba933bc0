use Rattle.std.proofs.Common.{Some}
use Rattle.sc_world.proofs.Found.{function_of, function_found}
use Rattle.sc_world.proofs.marks.has_behind.Goals as goal

pub returns : goal.returns
returns c = λ stops found. function_found c.args.places.now stops (function_of (Some c.args.home.now) c.args.name.now) c.contains.result c.contains.ensures found
