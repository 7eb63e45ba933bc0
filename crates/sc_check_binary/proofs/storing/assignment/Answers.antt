use Rattle.std.proofs.Common.{subst}
use Rattle.sc_core.specs.declared.expression.CoreExpr.{CoreExpr}
use Rattle.sc_check_operand.specs.Steps.{Says}
use Rattle.sc_check_binary.specs.Assignment.{assignment_value}
use Rattle.sc_check_binary.proofs.storing.assignment.Goals as goal

pub returns : goal.returns
returns c =
    let P : CoreExpr → Type 0 = λ x. Says (assignment_value c.args.structs.now c.args.known.now c.args.line c.args.a x) c.assignment_value.result in
    subst P c.in_ok-b.ensures c.assignment_value.ensures
