use Rattle.std.proofs.Common.{Ok, ap, sym, ◌∙◌, subst}
use Rattle.sc_interp_machine.specs.Bodies as machine
use Rattle.sc_interp_body.specs.Moves.{Uses}
use Rattle.sc_interp_body.proofs.step.uses.Goals as goal

pub returns-in_ok-next-in-Within : goal.returns-in_ok-next-in-Within
returns-in_ok-next-in-Within c = λ a.
    subst (λ d. Uses a d c.args.stmts.now c.args.env.now c.args.world.now (Ok c.placed.result) c.placed.new.doing c.use_next.new.stmts c.args.env.now c.use_next.new.world) (sym c.in-Within.is)
    (λ ends. c.placed.ensures (machine.expr_next a c.in-Within.user c.args.stmts.now c.args.env.now) c.use_next.new.stmts c.args.env.now c.use_next.new.world
    (ap (λ a. machine.expr_next a c.in-Within.user c.args.stmts.now c.args.env.now) (c.ended-a.ensures a c.args.world.now ends)
    ∙ ap (λ u. machine.use_next u c.ended-a.result c.args.stmts.now c.args.env.now c.args.world.now) (sym c.replace-user.ensures.value)
    ∙ c.in_ok-next-in-Within.ensures))
