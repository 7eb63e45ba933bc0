use Rattle.sc_elf_read.proofs.Clauses.{found_file, found_only, none_only}
use Rattle.sc_elf_read.proofs.reading.answered.Goals as goal

pub returns-in-Some : goal.returns-in-Some
returns-in-Some c = record {
  ok = found_file 2 c.args.bytes.now c.args.found c.in-Some.o c.in-Some.is c.requires.ok;
  only = found_only c.args.bytes.now c.args.found c.in-Some.o c.in-Some.is c.requires.only;
  rest = tt;
}

pub returns-in-None : goal.returns-in-None
returns-in-None c = record {
  ok = tt;
  only = none_only c.args.bytes.now c.args.found c.wrong_rest.result c.in-None.is c.requires.only;
  rest = c.wrong_rest.ensures;
}
