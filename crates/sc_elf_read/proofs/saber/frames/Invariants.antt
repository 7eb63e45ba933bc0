use Rattle.std.proofs.Common.{◌≡◌, [], ◌-◌}
use Rattle.sc_elf_read.specs.Tables.{many, frame_in}
use Rattle.sc_elf_read.proofs.saber.frames.Given as goal

abbrev pub invariant-loop-turn : goal.invariant-loop-turn
invariant-loop-turn l = many (frame_in l.version) (l.count - l.turn) l.all l.rest ≡ many (frame_in l.version) l.count [] l.bytes
