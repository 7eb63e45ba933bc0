use Rattle.std.proofs.Common.{◌≡◌, Some, None, sym, ◌∙◌}
use Rattle.sc_elf_read.specs.Tests.{wrong_header}
use Rattle.sc_elf_read.proofs.Clauses.{header_only, header_short, header_too_short, header_field, header_reloc, right_not_short, rest_short, rest_field, rest_reloc}
use Rattle.sc_elf_read.proofs.reading.read_object.Goals as goal

pub returns-in-Some : goal.returns-in-Some
returns-in-Some c =
    let bytes = c.args.bytes.now in
    let wrong : Some c.in-Some.fault ≡ wrong_header bytes = sym c.in-Some.is ∙ c.wrong_header.ensures in record {
      ok = tt;
      only = header_only bytes c.in-Some.fault wrong;
      short = header_short bytes c.in-Some.fault wrong;
      too_short = header_too_short bytes c.in-Some.fault wrong;
      field = header_field bytes c.in-Some.fault wrong;
      reloc = header_reloc bytes c.in-Some.fault wrong;
    }

pub returns-in-None : goal.returns-in-None
returns-in-None c =
    let bytes = c.args.bytes.now in
    let r = c.read_rest.result in
    let rest = c.read_rest.ensures in
    let right : None ≡ wrong_header bytes = sym c.in-None.is ∙ c.wrong_header.ensures in record {
      ok = rest.ok;
      only = rest.only;
      short = rest_short r bytes rest.rest;
      too_short = λ short. absurd (right_not_short bytes right short);
      field = rest_field r bytes right rest.only rest.rest;
      reloc = rest_reloc r bytes rest.rest;
    }
