use Rattle.std.proofs.Common.{◌<◌, length, arith}
use Rattle.sc_object.specs.Reading.{end_of}
use Rattle.sc_elf_read.proofs.Clauses.{decided_true, decided_false, ends_within, found_file, not_a_file}
use Rattle.sc_elf_read.proofs.reading.is_file.Goals as goal

pub returns-then-len-end : goal.returns-then-len-end
returns-then-len-end c =
    let short : length c.args.bytes.now < end_of c.args.bytes.now = omega (arith, c.end_of-end.ensures, c.if-len-end.true) in
    decided_false (ends_within c.args.version c.args.bytes.now c.requires short)

pub returns-in-Some : goal.returns-in-Some
returns-in-Some c =
    decided_true (c.in-Some.o, found_file c.args.version c.args.bytes.now c.in_ok-found.found c.in-Some.o c.in-Some.is c.in_ok-found.ensures.ok)

pub returns-in-None : goal.returns-in-None
returns-in-None c = decided_false (not_a_file c.args.version c.args.bytes.now c.in_ok-found.found c.in-None.is c.in_ok-found.ensures.only)
