-- What the opcode tells of all words but two.
use Rattle.std.proofs.Common.{◌∙◌, arith}
use Rattle.sc_isa.proofs.Complete.{complete}
use Rattle.sc_isa.proofs.Sound.{sound}
use Rattle.sc_isa.proofs.decoding.decode.Goals as goal

pub returns-in_default-clause-sound : goal.returns-in_default-clause-sound
returns-in_default-clause-sound c = rw c.by_opcode.ensures (sound c.args.w (omega arith))

pub returns-in_default-clause-complete : goal.returns-in_default-clause-complete
returns-in_default-clause-complete c i s e = c.by_opcode.ensures ∙ complete i c.args.w s e (λ w-is. omega arith) (λ w-is. omega arith)
