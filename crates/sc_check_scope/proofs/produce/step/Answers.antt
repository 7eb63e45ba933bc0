use Rattle.std.proofs.Common.{Bool, List, subst}
use Rattle.sc_check_scope.specs.Steps.{Says, typing}
use Rattle.sc_check_unary.specs.Parts as part
use Rattle.sc_check_scope.proofs.produce.step.Goals as goal

pub returns : goal.returns
returns c =
    let P : List Bool → Type 0 = λ k. Says (typing (part.step c.args.st.now.structs k c.args.line c.args.how c.args.a)) c.step_of.result in
    subst P c.as_slice.ensures c.step_of.ensures
