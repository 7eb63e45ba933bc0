use Rattle.sc_core_names.proofs.Enumerated.{listed}
use Rattle.sc_core_names.proofs.names.+constants.Goals as goal

pub put_word-returns-in-Enum : goal.put_word-returns-in-Enum
put_word-returns-in-Enum t c =
    listed c.args.word.now c.in-Enum.field-0 c.in-Enum.field-1 c.in-Enum.items c.as_slice-in-Enum.result.now c.in-Enum.is c.as_slice-in-Enum.ensures
    c.put_constants.result c.args.names.now.items c.put_constants.new.names.items c.put_constants.ensures
