use Rattle.std.proofs.Common.{Some}
use Rattle.sc_elf_read.proofs.Clauses.{found_is, found_other}
use Rattle.sc_elf_read.proofs.reading.if_file.Goals as goal

pub returns-then-same : goal.returns-then-same
returns-then-same c = record {
  ok = c.in_ok-same.ensures.0 c.if-same.true;
  only = found_is c.args.version c.args.bytes.now (Some c.args.o) c.requires.known c.requires.said;
}

pub returns-else-same : goal.returns-else-same
returns-else-same c = record {
  ok = tt;
  only = found_other c.args.version c.args.bytes.now c.args.o c.in_ok-same.same c.requires.known c.requires.said c.in_ok-same.ensures c.if-same.false;
}
