use Rattle.std.proofs.Common.{◌≡◌, Bool, List, refl, sym, ◌∙◌, ap, subst, Err}
use Rattle.sc_types.specs.declared.ctype.StructDef.{StructDef}
use Rattle.sc_tree.specs.declared.operator.Binary.{Binary}
use Rattle.sc_core.specs.declared.expression.CoreExpr.{CoreExpr}
use Rattle.sc_check_operand.specs.declared.fault.TypeFault.{TypeFault}
use Rattle.sc_check_operand.specs.Steps.{Says}
use Rattle.sc_check_binary.specs.declared.storing.Change.{Change}
use Rattle.sc_check_binary.specs.declared.storing.Change.TheVariants.{Wrong}
use Rattle.sc_check_binary.specs.Assignment.{change_of, changed}
use Rattle.sc_check_binary.proofs.storing.compound_value.Goals as goal

-- the operands are those behind the handles
operands : (structs : List StructDef) (known : List Bool) (o : Binary) (x y a b : CoreExpr) → x ≡ a → y ≡ b → change_of structs known o x y ≡ change_of structs known o a b
operands structs known o x y a b e d = ap (λ (z : CoreExpr). change_of structs known o z y) e ∙ ap (λ (z : CoreExpr). change_of structs known o a z) d

pub returns-in-Integers : goal.returns-in-Integers
returns-in-Integers c =
    let P : Change → Type 0 = λ x. Says (changed c.args.line x c.args.a c.args.b) c.changed_integer.result in
    subst P (sym c.in-Integers.is ∙ c.change_of.ensures ∙ operands c.args.structs.now c.args.known.now c.args.op c.get.result.now c.get-2.result.now c.args.a c.args.b c.get.ensures c.get-2.ensures) c.changed_integer.ensures

pub returns-in-Wrong : goal.returns-in-Wrong
returns-in-Wrong c =
    let Q : TypeFault → Type 0 = λ f. Says (changed c.args.line Wrong c.args.a c.args.b) (Err f) in
    let P : Change → Type 0 = λ x. Says (changed c.args.line x c.args.a c.args.b) (Err c.mismatch.result) in
    subst P (sym c.in-Wrong.is ∙ c.change_of.ensures ∙ operands c.args.structs.now c.args.known.now c.args.op c.get.result.now c.get-2.result.now c.args.a c.args.b c.get.ensures c.get-2.ensures) (subst Q (sym c.mismatch.ensures) refl)
