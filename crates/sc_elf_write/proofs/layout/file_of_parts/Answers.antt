use Rattle.std.proofs.Common.{◌+◌, ◌∙◌, ap, length}
use Rattle.sc_object.specs.Spelling.{with_names, file_of}
use Rattle.sc_elf_write.proofs.layout.file_of_parts.Goals as goal

pub returns : goal.returns
returns c =
    c.in_ok-file.ensures ∙ ap (file_of (length c.args.parts.now + 2)) (c.in_ok-whole.ensures ∙ ap with_names c.in_ok-laid.ensures)
