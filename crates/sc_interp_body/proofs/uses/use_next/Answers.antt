use Rattle.std.proofs.Common.{sym, subst}
use Rattle.sc_interp_machine.specs.Bodies as machine
use Rattle.sc_interp_body.specs.Moves.{Moves}
use Rattle.sc_interp_body.proofs.uses.use_next.Goals as goal

pub returns-in-Copy : goal.returns-in-Copy
returns-in-Copy c =
    subst (λ u. Moves (machine.use_next u c.args.a c.args.stmts.now c.args.env.now c.args.world.now) c.copy_next.result c.args.stmts.now c.args.env.now c.copy_next.new.world)
    (sym c.in-Copy.is) (c.copy_next.ensures c.args.stmts.now c.args.env.now)
