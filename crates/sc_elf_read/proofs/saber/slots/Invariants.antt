use Rattle.std.proofs.Common.{◌≡◌, ◌++◌, ◌-◌}
use Rattle.sc_elf_read.specs.Tables.{rows, slot_in}
use Rattle.sc_elf_read.proofs.saber.slots.Given as goal

abbrev pub invariant-loop-turn : goal.invariant-loop-turn
invariant-loop-turn l = l.all ++ rows slot_in 12 (l.count - l.turn) l.rest ≡ rows slot_in 12 l.count l.bytes
