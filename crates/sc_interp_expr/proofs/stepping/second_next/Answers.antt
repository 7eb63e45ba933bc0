use Rattle.std.proofs.Common.{sym, subst}
use Rattle.sc_core.specs.declared.expression.CoreExpr.{out-CoreExpr}
use Rattle.sc_interp_machine.specs.Machine as machine
use Rattle.sc_interp_machine.specs.Slots.{second_of}
use Rattle.sc_interp_expr.specs.Advances.{Goes}
use Rattle.sc_interp_expr.proofs.stepping.second_next.Goals as goal

pub returns-in-AssignStructure : goal.returns-in-AssignStructure
unfolding out-CoreExpr denote.Hole.Carrier.out
returns-in-AssignStructure c =
    subst (λ e. Goes (machine.item_next (second_of (out-CoreExpr e) c.args.held) c.args.answer.now c.args.slots.now c.args.world.now) c.structure.result c.structure.new.answer c.args.slots.now c.structure.new.world)
    (sym c.in-AssignStructure.is) (c.structure.ensures c.args.slots.now)
