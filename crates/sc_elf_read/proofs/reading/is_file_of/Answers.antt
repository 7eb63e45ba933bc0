use Rattle.std.proofs.Common.{rules, ◌≡◌, true, false, length}
use Rattle.std.specs.Str.{bytes_eq}
use Rattle.sc_elf_read.proofs.Clauses.{spelled_again, spelled_otherwise}
use Rattle.sc_elf_read.proofs.reading.is_file_of.Goals as goal

pub returns-then-same : goal.returns-then-same
returns-then-same c =
    let again = c.in_ok-again.again.items in
    let same : bytes_eq again c.args.bytes.now ≡ true = search rules in
    let len : c.len.result ≡ length again = search rules in
    spelled_again c.args.version c.len.result c.args.o.now again c.args.bytes.now c.is_spellable_in.result c.in_ok-again.ensures same len c.is_spellable_in.ensures

pub returns : goal.returns
returns c =
    let again = c.in_ok-again.again.items in
    let differs : bytes_eq again c.args.bytes.now ≡ false = search rules in
    spelled_otherwise c.args.version c.args.o.now again c.args.bytes.now c.in_ok-again.ensures differs
