use Rattle.std.proofs.Common.{None, Some, subst}
use Rattle.sc_link.specs.Steps.{IsFound}
use Rattle.sc_link.proofs.literals.put_literal.Goals as goal

pub put_first-requires : goal.put_first-requires
put_first-requires c = record { room = c.requires.room; free = c.requires.free; absent = subst (λ b. IsFound c.args.image.now (record { «module» = c.args.literal.«module»; bytes = b }) None) c.as_slice.ensures c.in-None.ensures }

pub move_literal-requires : goal.move_literal-requires
move_literal-requires c = record { room = c.requires.room; free = c.requires.free; found = subst (λ b. IsFound c.args.image.now (record { «module» = c.args.literal.«module»; bytes = b }) (Some c.in-Some.before)) c.as_slice.ensures c.in-Some.ensures }
