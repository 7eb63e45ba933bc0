use Rattle.sc_elf_read.proofs.Clauses.{is_two, is_one, is_neither}
use Rattle.sc_elf_read.proofs.reading.version.Goals as goal

pub returns-then-two : goal.returns-then-two
returns-then-two c =
    let h = is_two c.args.bytes.now c.in_ok-two.two c.in_ok-two.ensures c.if-two.true in
    record { two = h.0; one = h.1 }

pub returns-then-one : goal.returns-then-one
returns-then-one c =
    let h = is_one c.args.bytes.now c.in_ok-two.two c.in_ok-one.one c.in_ok-two.ensures c.if-two.false c.in_ok-one.ensures c.if-one.true in
    record { two = h.0; one = h.1 }

pub returns-else-one : goal.returns-else-one
returns-else-one c =
    let h = is_neither c.args.bytes.now c.in_ok-two.two c.in_ok-one.one c.in_ok-two.ensures c.if-two.false c.in_ok-one.ensures c.if-one.false in
    record { two = h.0; one = h.1 }
