use Rattle.std.proofs.Common.{◌++◌, ◌-◌, ◌∙◌, ap}
use Rattle.sc_object.specs.Words.{half, word}
use Rattle.sc_object.specs.Spelling.{ident, before_shoff, behind_shoff}
use Rattle.sc_elf_write.proofs.Steps.{five}
use Rattle.sc_elf_write.proofs.layout.put_header.Goals as goal

pub returns : goal.returns
returns c =
    five c.args.file.now.items (ident ++ before_shoff) (word c.args.shoff) behind_shoff (half c.args.shnum) (half (c.args.shnum - 1))
    c.put_before.new.file.items c.put_word.new.bytes.items c.put_behind.new.file.items c.put_half.new.bytes.items c.put_half-2.new.bytes.items
    c.in_ok-put_before.ensures c.in_ok-put_word.ensures c.in_ok-put_behind.ensures c.in_ok-put_half.ensures
    (c.in_ok-put_half-2.ensures ∙ ap (λ n. c.put_half.new.bytes.items ++ half n) c.saturating_sub.ensures)
