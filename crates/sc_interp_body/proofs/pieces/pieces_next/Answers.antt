use Rattle.std.proofs.Common.{sym, subst}
use Rattle.sc_interp_machine.specs.Bodies as machine
use Rattle.sc_interp_body.specs.Moves.{Moves}
use Rattle.sc_interp_body.proofs.pieces.pieces_next.Goals as goal

pub returns-in-None : goal.returns-in-None
returns-in-None c = λ ss env.
    subst (λ is. Moves (machine.pieces_next c.args.p is ss env c.args.world.now) c.pieces_end.result ss env c.pieces_end.new.world)
    (sym c.in-None.ensures) (c.pieces_end.ensures c.args.p ss env)
