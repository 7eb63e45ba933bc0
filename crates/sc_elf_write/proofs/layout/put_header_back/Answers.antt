use Rattle.sc_object.specs.Words.{word}
use Rattle.sc_elf_write.proofs.Steps.{five}
use Rattle.sc_elf_write.proofs.layout.put_header_back.Goals as goal

pub returns : goal.returns
returns c =
    let p = c.args.p.now in
    five c.args.bytes.now.items (word p.size) (word p.link) (word p.info) (word p.align) (word p.entry)
    c.put_word.new.bytes.items c.put_word-2.new.bytes.items c.put_word-3.new.bytes.items c.put_word-4.new.bytes.items c.put_word-5.new.bytes.items
    c.in_ok-put_word.ensures c.in_ok-put_word-2.ensures c.in_ok-put_word-3.ensures c.in_ok-put_word-4.ensures c.in_ok-put_word-5.ensures
