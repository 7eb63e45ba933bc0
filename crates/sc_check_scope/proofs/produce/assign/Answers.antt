use Rattle.std.proofs.Common.{Bool, List, Option, sym, subst}
use Rattle.sc_tree.specs.declared.operator.Binary.{Binary}
use Rattle.sc_check_binary.specs.Assignment as store
use Rattle.sc_check_scope.specs.Steps.{Says, typing}
use Rattle.sc_check_scope.specs.Expressions as spec
use Rattle.sc_check_scope.proofs.produce.assign.Goals as goal

pub returns-in-None : goal.returns-in-None
returns-in-None c =
    let P : Option Binary → Type 0 = λ o. Says (spec.assign c.args.line o c.args.a c.args.b c.args.st.now) c.stored.result in
    let Q : List Bool → Type 0 = λ k. Says (typing (store.assignment c.args.st.now.structs k c.args.line c.args.a c.args.b)) c.stored.result in
    subst P (sym c.in-None.is) (subst Q c.as_slice.ensures c.stored.ensures)

pub returns-in-Some : goal.returns-in-Some
returns-in-Some c =
    let P : Option Binary → Type 0 = λ o. Says (spec.assign c.args.line o c.args.a c.args.b c.args.st.now) c.changed.result in
    let Q : List Bool → Type 0 = λ k. Says (typing (store.compound c.args.st.now.structs k c.args.line c.in-Some.op c.args.a c.args.b)) c.changed.result in
    subst P (sym c.in-Some.is) (subst Q c.as_slice-in-Some.ensures c.changed.ensures)
