-- What the machine's answer is worth.
use Rattle.sc_parse_laws.proofs.Causes.{parses}
use Rattle.sc_parse.proofs.whole.unit.Goals as goal

pub returns : goal.returns
returns c = parses c.args.symbols.now c.read.result c.read.ensures
