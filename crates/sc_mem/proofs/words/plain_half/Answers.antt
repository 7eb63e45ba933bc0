use Rattle.sc_mem.proofs.Written.{two_written}
use Rattle.sc_mem.proofs.words.plain_half.Goals as goal

pub returns-in-Byte-Byte : goal.returns-in-Byte-Byte
returns-in-Byte-Byte c = two_written c.args.a c.args.b c.in-Byte-Byte.a c.in-Byte-Byte.b c.from.result c.from-in-Byte-Byte.result c.in-Byte-Byte.is-0 c.in-Byte-Byte.is-1 c.from.ensures c.from-in-Byte-Byte.ensures
