use Rattle.std.proofs.Common.{rules}
use Rattle.sc_disas.proofs.Lines.{answered, found}
use Rattle.sc_disas.proofs.reading.assemble.Goals as goal

pub returns-in-Some-clause-sound : goal.returns-in-Some-clause-sound
returns-in-Some-clause-sound c = answered c.args.line.now c.by_word.result (search rules)

pub returns-in-Some-clause-complete : goal.returns-in-Some-clause-complete
returns-in-Some-clause-complete c i s writes = found c.args.line.now c.by_word.result i (search rules) s writes
