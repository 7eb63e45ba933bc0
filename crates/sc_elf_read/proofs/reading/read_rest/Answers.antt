use Rattle.std.proofs.Common.{inr, refl}
use Rattle.sc_elf_read.proofs.Clauses.{answer_only, answer_rest}
use Rattle.sc_elf_read.proofs.reading.read_rest.Goals as goal

pub returns-in-Ok : goal.returns-in-Ok
returns-in-Ok c = record {
  ok = c.answered.ensures.ok;
  only = answer_only c.answered.result c.args.bytes.now c.answered.ensures.only;
  rest = answer_rest c.answered.result c.args.bytes.now c.answered.ensures.rest;
}

pub returns-in-Err : goal.returns-in-Err
returns-in-Err c = record { ok = tt; only = λ o file. refl; rest = inr refl }
