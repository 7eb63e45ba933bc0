use Rattle.std.proofs.Common.{None, sym, ◌∙◌}
use Rattle.sc_elf_read.proofs.Clauses.{found_is}
use Rattle.sc_elf_read.proofs.reading.read_as.Goals as goal

pub returns-in-None : goal.returns-in-None
returns-in-None c = record {
  ok = tt;
  only = found_is c.args.version c.args.bytes.now None c.requires (sym c.in-None.is ∙ c.in_ok-said.ensures);
}
