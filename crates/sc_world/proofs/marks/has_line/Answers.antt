use Rattle.sc_world.proofs.Found.{line_of, line_found}
use Rattle.sc_world.proofs.marks.has_line.Goals as goal

pub returns : goal.returns
returns c = λ stops found. line_found c.args.places.now stops (line_of c.args.home.now c.args.line) c.contains.result c.contains.ensures found
