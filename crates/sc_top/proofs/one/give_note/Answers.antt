use Rattle.std.proofs.Common.{rules}
use Rattle.sc_outside.specs.declared.probe.Noted.TheVariants as noted
use Rattle.sc_top.proofs.Hearing.{lost_note}
use Rattle.sc_top.proofs.one.give_note.Goals as goal

pub returns-in-Failed : goal.returns-in-Failed
returns-in-Failed g c = lost_note noted.Failed (search rules) (search rules) (search rules)

pub returns-in-NoMemory : goal.returns-in-NoMemory
returns-in-NoMemory g c = lost_note noted.NoMemory (search rules) (search rules) (search rules)
