use Rattle.sc_mem.proofs.Written.{one_written}
use Rattle.sc_mem.proofs.words.plain_word.Goals as goal

pub returns-in-Byte : goal.returns-in-Byte
returns-in-Byte c = one_written c.args.a c.in-Byte.a c.from.result c.in-Byte.is c.from.ensures
