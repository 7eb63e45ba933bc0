use Rattle.std.proofs.Common.{◌++◌, ◌∙◌, ap}
use Rattle.std.specs.Int.{w32, cast_unsigned}
use Rattle.sc_object.specs.Words.{word}
use Rattle.sc_object.specs.Parts.{reloc_info}
use Rattle.sc_elf_write.proofs.Steps.{three}
use Rattle.sc_elf_write.proofs.relocations.put_entry.Goals as goal

pub returns : goal.returns
returns c =
    let r = c.args.r.now in
    three c.args.bytes.now.items (word r.at) (word (reloc_info r)) (word (cast_unsigned w32 r.addend))
    c.put_word.new.bytes.items c.put_word-2.new.bytes.items c.put_addend.new.bytes.items
    c.in_ok-put_word.ensures (c.in_ok-put_word-2.ensures ∙ ap (λ n. c.put_word.new.bytes.items ++ word n) c.info_of.ensures) c.in_ok-put_addend.ensures
