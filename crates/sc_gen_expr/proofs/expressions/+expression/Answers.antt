use Rattle.std.proofs.Common.{refl, ap, ◌∙◌, true, false, not}
use Rattle.std.proofs.lemmas.Result.{on_ok_weaker}
use Rattle.sc_base.specs.declared.operator.Op.TheVariants as op
use Rattle.sc_core.specs.declared.expression.CoreExpr.{out-CoreExpr}
use Rattle.sc_core.specs.declared.expression.CoreExpr.TheVariants as v
use Rattle.sc_core.specs.declared.expression.CoreExpr.TheOpen.{CoreExpr-F}
use Rattle.sc_core.specs.declared.expression.UnaryOperator.{UnaryOperator}
use Rattle.sc_core.specs.declared.expression.UnaryOperator.TheVariants as unary
use Rattle.sc_gen_code.specs.declared.symbolic.Symbolic.TheVariants.{Plain}
use Rattle.sc_gen_code.specs.Code.{a0, skip_if, skip_unless}
use Rattle.sc_gen_code.specs.Operators.{convert, unary_of, further}
use Rattle.sc_gen_operand.specs.declared.plans.Want.TheVariants.{Word, Foot}
use Rattle.sc_gen_operand.specs.Plans as plans
use Rattle.sc_gen_operand.specs.Plans.{word, foot, Skips}
use Rattle.sc_gen_operand.specs.Templates as templates
use Rattle.sc_gen_expr.proofs.Layers.{bare_part, one_part, wanted_part, two_parts, pair_parts, logical_parts, joined_parts, choice_parts, told_part, told_is, call_parts}
use Rattle.sc_gen_expr.specs.Expressions.{part_of}
use Rattle.sc_gen_expr.proofs.Waiting.{one_more, all_passed}
use Rattle.sc_gen_expr.proofs.expressions.+expression.Goals as goal

pub expression-returns-in_ok-right-in-Index : goal.expression-returns-in_ok-right-in-Index
expression-returns-in_ok-right-in-Index t c =
    on_ok_weaker
    c.offset_end.result
    (pair_parts c.args.scope.now.style.now c.args.scope.now.slots.now word c.args.e.now c.args.t (CoreExpr-F.Index c.in-Index.field-0 c.in-Index.field-1 c.in-Index.size c.in-Index.a c.in-Index.b) (ap out-CoreExpr c.in-Index.is ∙ v.outs-Index c.in-Index.field-0 c.in-Index.field-1 c.in-Index.size c.in-Index.a c.in-Index.b)
    c.in-Index.a c.get.result.now c.get-in-Index-2.result.now c.get-in-Index-4.result.now c.in-Index.b c.get-in-Index.result.now c.get-in-Index-3.result.now c.get-in-Index-5.result.now (λ a b. plans.offset_operands c.args.scope.now.slots.now Word c.in-Index.size a b c.args.t) c.offset_operands-how.result (λ h a b. templates.offset_end c.args.scope.now.style.now c.args.scope.now.slots.now h Word op.Add c.in-Index.size a b)
    c.args.code.now _ _ _ refl c.get.ensures c.get-in-Index-2.ensures c.get-in-Index-4.ensures c.get-in-Index.ensures c.get-in-Index-3.ensures c.get-in-Index-5.ensures
    c.offset_operands-how.ensures c.in_ok-left-in-Index.ensures c.in_ok-right-in-Index.ensures)
    c.offset_end.ensures

pub expression-returns-in_ok-right-in-Binary : goal.expression-returns-in_ok-right-in-Binary
expression-returns-in_ok-right-in-Binary t c =
    on_ok_weaker
    c.operated.result
    (pair_parts c.args.scope.now.style.now c.args.scope.now.slots.now word c.args.e.now c.args.t (CoreExpr-F.Binary c.in-Binary.field-0 c.in-Binary.field-1 c.in-Binary.op c.in-Binary.a c.in-Binary.b) (ap out-CoreExpr c.in-Binary.is ∙ v.outs-Binary c.in-Binary.field-0 c.in-Binary.field-1 c.in-Binary.op c.in-Binary.a c.in-Binary.b)
    c.in-Binary.a c.get-in-Binary.result.now c.get-in-Binary-3.result.now c.get-in-Binary-5.result.now c.in-Binary.b c.get-in-Binary-2.result.now c.get-in-Binary-4.result.now c.get-in-Binary-6.result.now (λ a b. plans.binary_operands c.args.scope.now.style.now c.args.scope.now.slots.now c.in-Binary.op a b c.args.t) c.binary_operands-how.result (λ h a b. templates.operated c.args.scope.now.style.now c.args.scope.now.slots.now h c.in-Binary.op a b)
    c.args.code.now _ _ _ refl c.get-in-Binary.ensures c.get-in-Binary-3.ensures c.get-in-Binary-5.ensures c.get-in-Binary-2.ensures c.get-in-Binary-4.ensures c.get-in-Binary-6.ensures
    c.binary_operands-how.ensures c.in_ok-left-in-Binary.ensures c.in_ok-right-in-Binary.ensures)
    c.operated.ensures

pub expression-returns-in_ok-right-in-Offset : goal.expression-returns-in_ok-right-in-Offset
expression-returns-in_ok-right-in-Offset t c =
    on_ok_weaker
    c.offset_end-in-Offset.result
    (pair_parts c.args.scope.now.style.now c.args.scope.now.slots.now word c.args.e.now c.args.t (CoreExpr-F.Offset c.in-Offset.field-0 c.in-Offset.field-1 c.in-Offset.op c.in-Offset.size c.in-Offset.a c.in-Offset.b) (ap out-CoreExpr c.in-Offset.is ∙ v.outs-Offset c.in-Offset.field-0 c.in-Offset.field-1 c.in-Offset.op c.in-Offset.size c.in-Offset.a c.in-Offset.b)
    c.in-Offset.a c.get-in-Offset.result.now c.get-in-Offset-3.result.now c.get-in-Offset-5.result.now c.in-Offset.b c.get-in-Offset-2.result.now c.get-in-Offset-4.result.now c.get-in-Offset-6.result.now (λ a b. plans.offset_operands c.args.scope.now.slots.now Word c.in-Offset.size a b c.args.t) c.offset_operands-how-in-Offset.result (λ h a b. templates.offset_end c.args.scope.now.style.now c.args.scope.now.slots.now h Word c.in-Offset.op c.in-Offset.size a b)
    c.args.code.now _ _ _ refl c.get-in-Offset.ensures c.get-in-Offset-3.ensures c.get-in-Offset-5.ensures c.get-in-Offset-2.ensures c.get-in-Offset-4.ensures c.get-in-Offset-6.ensures
    c.offset_operands-how-in-Offset.ensures c.in_ok-left-in-Offset.ensures c.in_ok-right-in-Offset.ensures)
    c.offset_end-in-Offset.ensures

pub expression-returns-in_ok-right-in-Difference : goal.expression-returns-in_ok-right-in-Difference
expression-returns-in_ok-right-in-Difference t c =
    on_ok_weaker
    c.difference_end.result
    (pair_parts c.args.scope.now.style.now c.args.scope.now.slots.now word c.args.e.now c.args.t (CoreExpr-F.Difference c.in-Difference.field-0 c.in-Difference.field-1 c.in-Difference.size c.in-Difference.a c.in-Difference.b) (ap out-CoreExpr c.in-Difference.is ∙ v.outs-Difference c.in-Difference.field-0 c.in-Difference.field-1 c.in-Difference.size c.in-Difference.a c.in-Difference.b)
    c.in-Difference.a c.get-in-Difference-2.result.now c.get-in-Difference-2.result.now c.get-in-Difference-4.result.now c.in-Difference.b c.get-in-Difference.result.now c.get-in-Difference-3.result.now c.get-in-Difference-5.result.now (λ a b. plans.value_operands c.args.scope.now.slots.now b c.args.t) c.value_operands-how.result (λ h a b. templates.difference_end c.args.scope.now.style.now c.args.scope.now.slots.now h c.in-Difference.size a b)
    c.args.code.now _ _ _ refl c.get-in-Difference-2.ensures c.get-in-Difference-2.ensures c.get-in-Difference-4.ensures c.get-in-Difference.ensures c.get-in-Difference-3.ensures c.get-in-Difference-5.ensures
    c.value_operands-how.ensures c.in_ok-left-in-Difference.ensures c.in_ok-right-in-Difference.ensures)
    c.difference_end.ensures

pub expression-returns-in_ok-right-in-Compare : goal.expression-returns-in_ok-right-in-Compare
expression-returns-in_ok-right-in-Compare t c =
    on_ok_weaker
    c.compared_end.result
    (pair_parts c.args.scope.now.style.now c.args.scope.now.slots.now word c.args.e.now c.args.t (CoreExpr-F.Compare c.in-Compare.field-0 c.in-Compare.field-1 c.in-Compare.op c.in-Compare.a c.in-Compare.b) (ap out-CoreExpr c.in-Compare.is ∙ v.outs-Compare c.in-Compare.field-0 c.in-Compare.field-1 c.in-Compare.op c.in-Compare.a c.in-Compare.b)
    c.in-Compare.a c.get-in-Compare-2.result.now c.get-in-Compare-2.result.now c.get-in-Compare-4.result.now c.in-Compare.b c.get-in-Compare.result.now c.get-in-Compare-3.result.now c.get-in-Compare-5.result.now (λ a b. plans.value_operands c.args.scope.now.slots.now b c.args.t) c.value_operands-how-in-Compare.result (λ h a b. templates.compared_end c.args.scope.now.style.now c.args.scope.now.slots.now h c.in-Compare.op a b)
    c.args.code.now _ _ _ refl c.get-in-Compare-2.ensures c.get-in-Compare-2.ensures c.get-in-Compare-4.ensures c.get-in-Compare.ensures c.get-in-Compare-3.ensures c.get-in-Compare-5.ensures
    c.value_operands-how-in-Compare.ensures c.in_ok-left-in-Compare.ensures c.in_ok-right-in-Compare.ensures)
    c.compared_end.ensures

pub expression-returns-in_ok-right-in-Assign : goal.expression-returns-in_ok-right-in-Assign
expression-returns-in_ok-right-in-Assign t c =
    on_ok_weaker
    c.assign_end.result
    (pair_parts c.args.scope.now.style.now c.args.scope.now.slots.now word c.args.e.now c.args.t (CoreExpr-F.Assign c.in-Assign.field-0 c.in-Assign.field-1 c.in-Assign.a c.in-Assign.b) (ap out-CoreExpr c.in-Assign.is ∙ v.outs-Assign c.in-Assign.field-0 c.in-Assign.field-1 c.in-Assign.a c.in-Assign.b)
    c.in-Assign.a c.get-in-Assign.result.now c.get-in-Assign-3.result.now c.get-in-Assign-5.result.now c.in-Assign.b c.get-in-Assign-2.result.now c.get-in-Assign-4.result.now c.get-in-Assign-6.result.now (λ a b. plans.assign_operands c.args.scope.now.slots.now a b c.args.t) c.assign_operands-how.result (λ h a b. templates.assign_end c.args.scope.now.style.now c.args.scope.now.slots.now h a b)
    c.args.code.now _ _ _ refl c.get-in-Assign.ensures c.get-in-Assign-3.ensures c.get-in-Assign-5.ensures c.get-in-Assign-2.ensures c.get-in-Assign-4.ensures c.get-in-Assign-6.ensures
    c.assign_operands-how.ensures c.in_ok-left-in-Assign.ensures c.in_ok-right-in-Assign.ensures)
    c.assign_end.ensures

pub expression-returns-in_ok-right-in-AssignStructure : goal.expression-returns-in_ok-right-in-AssignStructure
expression-returns-in_ok-right-in-AssignStructure t c =
    on_ok_weaker
    c.structure_end.result
    (pair_parts c.args.scope.now.style.now c.args.scope.now.slots.now word c.args.e.now c.args.t (CoreExpr-F.AssignStructure c.in-AssignStructure.field-0 c.in-AssignStructure.field-1 c.in-AssignStructure.size c.in-AssignStructure.a c.in-AssignStructure.b) (ap out-CoreExpr c.in-AssignStructure.is ∙ v.outs-AssignStructure c.in-AssignStructure.field-0 c.in-AssignStructure.field-1 c.in-AssignStructure.size c.in-AssignStructure.a c.in-AssignStructure.b)
    c.in-AssignStructure.a c.get-in-AssignStructure-2.result.now c.get-in-AssignStructure-2.result.now c.get-in-AssignStructure-4.result.now c.in-AssignStructure.b c.get-in-AssignStructure.result.now c.get-in-AssignStructure-3.result.now c.get-in-AssignStructure-5.result.now (λ a b. plans.structure_operands b c.args.t) c.structure_operands-how.result (λ h a b. templates.structure_end c.args.scope.now.style.now c.args.scope.now.slots.now h c.in-AssignStructure.size a b)
    c.args.code.now _ _ _ refl c.get-in-AssignStructure-2.ensures c.get-in-AssignStructure-2.ensures c.get-in-AssignStructure-4.ensures c.get-in-AssignStructure.ensures c.get-in-AssignStructure-3.ensures c.get-in-AssignStructure-5.ensures
    c.structure_operands-how.ensures c.in_ok-left-in-AssignStructure.ensures c.in_ok-right-in-AssignStructure.ensures)
    c.structure_end.ensures

pub expression-returns-in_ok-right-in-Compound : goal.expression-returns-in_ok-right-in-Compound
expression-returns-in_ok-right-in-Compound t c =
    on_ok_weaker
    c.compound_end.result
    (pair_parts c.args.scope.now.style.now c.args.scope.now.slots.now word c.args.e.now c.args.t (CoreExpr-F.Compound c.in-Compound.field-0 c.in-Compound.field-1 c.in-Compound.op c.in-Compound.k c.in-Compound.a c.in-Compound.b) (ap out-CoreExpr c.in-Compound.is ∙ v.outs-Compound c.in-Compound.field-0 c.in-Compound.field-1 c.in-Compound.op c.in-Compound.k c.in-Compound.a c.in-Compound.b)
    c.in-Compound.a c.get-in-Compound.result.now c.get-in-Compound-3.result.now c.get-in-Compound-5.result.now c.in-Compound.b c.get-in-Compound-2.result.now c.get-in-Compound-4.result.now c.get-in-Compound-6.result.now (λ a b. plans.compound_operands c.args.scope.now.slots.now c.in-Compound.op c.in-Compound.k a b c.args.t) c.compound_operands-how.result (λ h a b. templates.compound_end c.args.scope.now.style.now c.args.scope.now.slots.now h c.in-Compound.op c.in-Compound.k a b)
    c.args.code.now _ _ _ refl c.get-in-Compound.ensures c.get-in-Compound-3.ensures c.get-in-Compound-5.ensures c.get-in-Compound-2.ensures c.get-in-Compound-4.ensures c.get-in-Compound-6.ensures
    c.compound_operands-how.ensures c.in_ok-left-in-Compound.ensures c.in_ok-right-in-Compound.ensures)
    c.compound_end.ensures

pub expression-returns-in_ok-right-in-CompoundOffset : goal.expression-returns-in_ok-right-in-CompoundOffset
expression-returns-in_ok-right-in-CompoundOffset t c =
    on_ok_weaker
    c.moving_end.result
    (pair_parts c.args.scope.now.style.now c.args.scope.now.slots.now word c.args.e.now c.args.t (CoreExpr-F.CompoundOffset c.in-CompoundOffset.field-0 c.in-CompoundOffset.field-1 c.in-CompoundOffset.op c.in-CompoundOffset.size c.in-CompoundOffset.a c.in-CompoundOffset.b) (ap out-CoreExpr c.in-CompoundOffset.is ∙ v.outs-CompoundOffset c.in-CompoundOffset.field-0 c.in-CompoundOffset.field-1 c.in-CompoundOffset.op c.in-CompoundOffset.size c.in-CompoundOffset.a c.in-CompoundOffset.b)
    c.in-CompoundOffset.a c.get-in-CompoundOffset.result.now c.get-in-CompoundOffset-3.result.now c.get-in-CompoundOffset-5.result.now c.in-CompoundOffset.b c.get-in-CompoundOffset-2.result.now c.get-in-CompoundOffset-4.result.now c.get-in-CompoundOffset-6.result.now (λ a b. plans.moving_operands c.args.scope.now.slots.now c.in-CompoundOffset.size a b c.args.t) c.moving_operands-how.result (λ h a b. templates.moving_end c.args.scope.now.style.now c.args.scope.now.slots.now h c.in-CompoundOffset.op c.in-CompoundOffset.size a b)
    c.args.code.now _ _ _ refl c.get-in-CompoundOffset.ensures c.get-in-CompoundOffset-3.ensures c.get-in-CompoundOffset-5.ensures c.get-in-CompoundOffset-2.ensures c.get-in-CompoundOffset-4.ensures c.get-in-CompoundOffset-6.ensures
    c.moving_operands-how.ensures c.in_ok-left-in-CompoundOffset.ensures c.in_ok-right-in-CompoundOffset.ensures)
    c.moving_end.ensures

pub expression-returns-in_ok-expression-in-Member : goal.expression-returns-in_ok-expression-in-Member
expression-returns-in_ok-expression-in-Member t c =
    on_ok_weaker
    c.further.result
    (one_part c.args.scope.now.style.now c.args.scope.now.slots.now word c.args.e.now c.args.t (CoreExpr-F.Member c.in-Member.field-0 c.in-Member.field-1 c.in-Member.n c.in-Member.a) (ap out-CoreExpr c.in-Member.is ∙ v.outs-Member c.in-Member.field-0 c.in-Member.field-1 c.in-Member.n c.in-Member.a)
    word c.in-Member.a c.get-in-Member.result.now c.in-Member.a (λ _. further c.in-Member.n) c.args.code.now _ _ refl c.get-in-Member.ensures refl c.in_ok-expression-in-Member.ensures)
    c.further.ensures

pub expression-returns-in_ok-expression-in-Arrow : goal.expression-returns-in_ok-expression-in-Arrow
expression-returns-in_ok-expression-in-Arrow t c =
    on_ok_weaker
    c.further-in-Arrow.result
    (one_part c.args.scope.now.style.now c.args.scope.now.slots.now word c.args.e.now c.args.t (CoreExpr-F.Arrow c.in-Arrow.field-0 c.in-Arrow.field-1 c.in-Arrow.n c.in-Arrow.a) (ap out-CoreExpr c.in-Arrow.is ∙ v.outs-Arrow c.in-Arrow.field-0 c.in-Arrow.field-1 c.in-Arrow.n c.in-Arrow.a)
    word c.in-Arrow.a c.get-in-Arrow.result.now c.in-Arrow.a (λ _. further c.in-Arrow.n) c.args.code.now _ _ refl c.get-in-Arrow.ensures refl c.in_ok-expression-in-Arrow.ensures)
    c.further-in-Arrow.ensures

pub expression-returns-in_ok-expression-in-Unary : goal.expression-returns-in_ok-expression-in-Unary
expression-returns-in_ok-expression-in-Unary t c =
    on_ok_weaker
    c.unary.result
    (one_part c.args.scope.now.style.now c.args.scope.now.slots.now word c.args.e.now c.args.t (CoreExpr-F.Unary c.in-Unary.field-0 c.in-Unary.field-1 c.in-Unary.op c.in-Unary.a) (ap out-CoreExpr c.in-Unary.is ∙ v.outs-Unary c.in-Unary.field-0 c.in-Unary.field-1 c.in-Unary.op c.in-Unary.a)
    word c.in-Unary.a c.get-in-Unary.result.now c.in-Unary.a (λ _. unary_of c.in-Unary.op) c.args.code.now _ _ refl c.get-in-Unary.ensures refl c.in_ok-expression-in-Unary.ensures)
    c.unary.ensures

pub expression-returns-in_ok-expression-in-Cast : goal.expression-returns-in_ok-expression-in-Cast
expression-returns-in_ok-expression-in-Cast t c =
    on_ok_weaker
    c.convert.result
    (one_part c.args.scope.now.style.now c.args.scope.now.slots.now word c.args.e.now c.args.t (CoreExpr-F.Cast c.in-Cast.field-0 c.in-Cast.of c.in-Cast.a) (ap out-CoreExpr c.in-Cast.is ∙ v.outs-Cast c.in-Cast.field-0 c.in-Cast.of c.in-Cast.a)
    word c.in-Cast.a c.get-in-Cast.result.now c.in-Cast.a (λ _. convert c.in-Cast.of a0) c.args.code.now _ _ refl c.get-in-Cast.ensures refl c.in_ok-expression-in-Cast.ensures)
    c.convert.ensures

pub expression-returns-in_ok-wanted-in-Step : goal.expression-returns-in_ok-wanted-in-Step
expression-returns-in_ok-wanted-in-Step t c =
    on_ok_weaker
    c.step_end.result
    (wanted_part c.args.scope.now.style.now c.args.scope.now.slots.now word c.args.e.now c.args.t (CoreExpr-F.Step c.in-Step.field-0 c.in-Step.field-1 c.in-Step.step c.in-Step.n c.in-Step.a) (ap out-CoreExpr c.in-Step.is ∙ v.outs-Step c.in-Step.field-0 c.in-Step.field-1 c.in-Step.step c.in-Step.n c.in-Step.a)
    c.in-Step.a c.get-in-Step.result.now c.get-in-Step-2.result.now c.get-in-Step-3.result.now (plans.step_wants c.args.scope.now.slots.now) c.step_wants.result (λ a. templates.step_end c.args.scope.now.style.now c.args.scope.now.slots.now c.in-Step.step c.in-Step.n a)
    c.args.code.now _ _ refl c.get-in-Step.ensures c.get-in-Step-2.ensures c.get-in-Step-3.ensures c.step_wants.ensures c.in_ok-wanted-in-Step.ensures)
    c.step_end.ensures

pub expression-returns-in_ok-wanted-in-Convert : goal.expression-returns-in_ok-wanted-in-Convert
expression-returns-in_ok-wanted-in-Convert t c =
    on_ok_weaker
    c.read_end.result
    (wanted_part c.args.scope.now.style.now c.args.scope.now.slots.now word c.args.e.now c.args.t (CoreExpr-F.Convert c.in-Convert.field-0 c.in-Convert.to c.in-Convert.a) (ap out-CoreExpr c.in-Convert.is ∙ v.outs-Convert c.in-Convert.field-0 c.in-Convert.to c.in-Convert.a)
    c.in-Convert.a c.get-in-Convert.result.now c.get-in-Convert-2.result.now c.get-in-Convert-3.result.now (plans.read_wants c.args.scope.now.slots.now) c.read_wants.result (λ a. templates.read_end c.args.scope.now.style.now c.args.scope.now.slots.now a c.in-Convert.to)
    c.args.code.now _ _ refl c.get-in-Convert.ensures c.get-in-Convert-2.ensures c.get-in-Convert-3.ensures c.read_wants.ensures c.in_ok-wanted-in-Convert.ensures)
    c.read_end.ensures

pub expression-returns-in_ok-expression-in-And-2 : goal.expression-returns-in_ok-expression-in-And-2
expression-returns-in_ok-expression-in-And-2 t c =
    on_ok_weaker
    c.end_logical.result
    (logical_parts c.args.scope.now.style.now c.args.scope.now.slots.now word c.args.e.now c.args.t (CoreExpr-F.And c.in-And.field-0 c.in-And.field-1 c.in-And.a c.in-And.b) (ap out-CoreExpr c.in-And.is ∙ v.outs-And c.in-And.field-0 c.in-And.field-1 c.in-And.a c.in-And.b)
    c.in-And.a c.get-in-And.result.now c.in-And.b c.get-in-And-2.result.now skip_if _ c.in_ok-jump-in-And.jump c.args.code.now _ _ _ _ refl c.get-in-And.ensures c.get-in-And-2.ensures c.skip_if.ensures
    c.in_ok-expression-in-And.ensures c.in_ok-jump-in-And.ensures.opened c.in_ok-jump-in-And.ensures.place c.in_ok-expression-in-And-2.ensures)
    c.end_logical.ensures

pub expression-returns-in_ok-expression-in-Or-2 : goal.expression-returns-in_ok-expression-in-Or-2
expression-returns-in_ok-expression-in-Or-2 t c =
    on_ok_weaker
    c.end_logical-in-Or.result
    (logical_parts c.args.scope.now.style.now c.args.scope.now.slots.now word c.args.e.now c.args.t (CoreExpr-F.Or c.in-Or.field-0 c.in-Or.field-1 c.in-Or.a c.in-Or.b) (ap out-CoreExpr c.in-Or.is ∙ v.outs-Or c.in-Or.field-0 c.in-Or.field-1 c.in-Or.a c.in-Or.b)
    c.in-Or.a c.get-in-Or.result.now c.in-Or.b c.get-in-Or-2.result.now skip_unless _ c.in_ok-jump-in-Or.jump c.args.code.now _ _ _ _ refl c.get-in-Or.ensures c.get-in-Or-2.ensures c.skip_unless.ensures
    c.in_ok-expression-in-Or.ensures c.in_ok-jump-in-Or.ensures.opened c.in_ok-jump-in-Or.ensures.place c.in_ok-expression-in-Or-2.ensures)
    c.end_logical-in-Or.ensures

pub expression-returns-in_ok-expression-in-Conditional-2 : goal.expression-returns-in_ok-expression-in-Conditional-2
expression-returns-in_ok-expression-in-Conditional-2 t c =
    choice_parts c.args.scope.now.style.now c.args.scope.now.slots.now word c.args.e.now c.args.t (CoreExpr-F.Conditional c.in-Conditional.field-0 c.in-Conditional.field-1 c.in-Conditional.a c.in-Conditional.b c.in-Conditional.d) (ap out-CoreExpr c.in-Conditional.is ∙ v.outs-Conditional c.in-Conditional.field-0 c.in-Conditional.field-1 c.in-Conditional.a c.in-Conditional.b c.in-Conditional.d)
    c.in-Conditional.a c.get-in-Conditional.result.now c.in-Conditional.b c.get-in-Conditional-2.result.now c.in-Conditional.d c.get-in-Conditional-3.result.now c.in_ok-other-in-Conditional.other c.in_ok-end-in-Conditional.end
    c.args.code.now _ _ _ _ _ _ refl c.get-in-Conditional.ensures c.get-in-Conditional-2.ensures c.get-in-Conditional-3.ensures
    c.in_ok-test-in-Conditional.ensures c.in_ok-other-in-Conditional.ensures.opened c.in_ok-other-in-Conditional.ensures.place c.in_ok-expression-in-Conditional.ensures
    c.in_ok-end-in-Conditional.ensures.reopened c.in_ok-end-in-Conditional.ensures.place c.in_ok-expression-in-Conditional-2.ensures c.close.ensures

pub expression-returns-in_ok-expression-in-Comma : goal.expression-returns-in_ok-expression-in-Comma
expression-returns-in_ok-expression-in-Comma t c =
    on_ok_weaker
    c.expression-in-Comma-2.result
    (two_parts c.args.scope.now.style.now c.args.scope.now.slots.now word c.args.e.now c.args.t (CoreExpr-F.Comma c.in-Comma.field-0 c.in-Comma.field-1 c.in-Comma.a c.in-Comma.b) (ap out-CoreExpr c.in-Comma.is ∙ v.outs-Comma c.in-Comma.field-0 c.in-Comma.field-1 c.in-Comma.a c.in-Comma.b)
    word word c.in-Comma.a c.get-in-Comma.result.now c.in-Comma.b c.get-in-Comma-2.result.now c.args.code.now _ _ refl c.get-in-Comma.ensures c.get-in-Comma-2.ensures c.in_ok-expression-in-Comma.ensures)
    c.expression-in-Comma-2.ensures

pub expression-returns-in_ok-arguments-in-Call : goal.expression-returns-in_ok-arguments-in-Call
expression-returns-in_ok-arguments-in-Call t c =
    on_ok_weaker
    c.transfer.result
    (call_parts c.args.scope.now.style.now c.args.scope.now.slots.now c.args.e.now c.args.t c.in-Call.field-0 c.in-Call.field-1 c.in-Call.function c.get-in-Call.result.now c.get-in-Call-2.result.now c.in-Call.args
    c.as_slice.result.now c.as_slice-in-Call.result.now c.as_slice-in-Call-2.result.now c.computed-n.result c.behind.result
    c.args.code.now _ _ _ c.in-Call.is c.get-in-Call.ensures c.get-in-Call-2.ensures c.as_slice.ensures c.as_slice-in-Call.ensures c.as_slice-in-Call-2.ensures c.computed-n.ensures c.behind.ensures
    c.in_ok-callee-in-Call.ensures c.in_ok-arguments-in-Call.ensures)
    c.transfer.ensures

pub foot-returns-in_ok-foot-in-Member : goal.foot-returns-in_ok-foot-in-Member
foot-returns-in_ok-foot-in-Member t c =
    on_ok_weaker
    c.member_end.result
    (one_part c.args.scope.now.style.now c.args.scope.now.slots.now foot c.args.e.now c.args.t (CoreExpr-F.Member c.in-Member.field-0 c.in-Member.field-1 c.in-Member.n c.in-Member.a) (ap out-CoreExpr c.in-Member.is ∙ v.outs-Member c.in-Member.field-0 c.in-Member.field-1 c.in-Member.n c.in-Member.a)
    foot c.in-Member.a c.get.result.now c.get-in-Member.result.now (λ a. templates.member_end c.in-Member.n a) c.args.code.now _ _ refl c.get.ensures c.get-in-Member.ensures c.in_ok-foot-in-Member.ensures)
    c.member_end.ensures

pub foot-returns-in_ok-foot-in-Arrow : goal.foot-returns-in_ok-foot-in-Arrow
foot-returns-in_ok-foot-in-Arrow t c =
    on_ok_weaker
    c.member_end-in-Arrow.result
    (one_part c.args.scope.now.style.now c.args.scope.now.slots.now foot c.args.e.now c.args.t (CoreExpr-F.Arrow c.in-Arrow.field-0 c.in-Arrow.field-1 c.in-Arrow.n c.in-Arrow.a) (ap out-CoreExpr c.in-Arrow.is ∙ v.outs-Arrow c.in-Arrow.field-0 c.in-Arrow.field-1 c.in-Arrow.n c.in-Arrow.a)
    foot c.in-Arrow.a c.get-in-Arrow.result.now c.get-in-Arrow-2.result.now (λ a. templates.member_end c.in-Arrow.n a) c.args.code.now _ _ refl c.get-in-Arrow.ensures c.get-in-Arrow-2.ensures c.in_ok-foot-in-Arrow.ensures)
    c.member_end-in-Arrow.ensures

pub foot-returns-in_ok-right-in-Index : goal.foot-returns-in_ok-right-in-Index
foot-returns-in_ok-right-in-Index t c =
    on_ok_weaker
    c.offset_end.result
    (pair_parts c.args.scope.now.style.now c.args.scope.now.slots.now foot c.args.e.now c.args.t (CoreExpr-F.Index c.in-Index.field-0 c.in-Index.field-1 c.in-Index.size c.in-Index.a c.in-Index.b) (ap out-CoreExpr c.in-Index.is ∙ v.outs-Index c.in-Index.field-0 c.in-Index.field-1 c.in-Index.size c.in-Index.a c.in-Index.b)
    c.in-Index.a c.get-in-Index.result.now c.get-in-Index-3.result.now c.get-in-Index-5.result.now c.in-Index.b c.get-in-Index-2.result.now c.get-in-Index-4.result.now c.get-in-Index-6.result.now (λ a b. plans.offset_operands c.args.scope.now.slots.now Foot c.in-Index.size a b c.args.t) c.offset_operands-how.result (λ h a b. templates.offset_end c.args.scope.now.style.now c.args.scope.now.slots.now h Foot op.Add c.in-Index.size a b)
    c.args.code.now _ _ _ refl c.get-in-Index.ensures c.get-in-Index-3.ensures c.get-in-Index-5.ensures c.get-in-Index-2.ensures c.get-in-Index-4.ensures c.get-in-Index-6.ensures
    c.offset_operands-how.ensures c.in_ok-left-in-Index.ensures c.in_ok-right-in-Index.ensures)
    c.offset_end.ensures

pub told-returns : goal.told-returns
told-returns t c =
    on_ok_weaker
    c.put_one.result
    (told_is c.args.scope.now.style.now c.args.scope.now.slots.now c.args.e.now c.args.t c.args.sense c.comparison.result (Plain c.branch-comparison.result) c.args.code.now _ _ c.in_ok-condition.ensures c.comparison.ensures c.branch-comparison.ensures)
    c.put_one.ensures

pub test-returns-in-Not : goal.test-returns-in-Not
test-returns-in-Not t c =
    let whole = c.in-Unary.is ∙ ap (λ (o : UnaryOperator). v.Unary c.in-Unary.field-0 c.in-Unary.field-1 o c.in-Unary.a) c.in-Not.is in
    on_ok_weaker
    c.test.result
    (bare_part c.args.scope.now.style.now c.args.scope.now.slots.now (Skips c.args.sense) c.args.e.now c.args.t (CoreExpr-F.Unary c.in-Unary.field-0 c.in-Unary.field-1 unary.Not c.in-Unary.a)
    (ap out-CoreExpr whole ∙ v.outs-Unary c.in-Unary.field-0 c.in-Unary.field-1 unary.Not c.in-Unary.a)
    (Skips (not c.args.sense)) c.in-Unary.a c.get.result.now c.args.code.now _ refl c.get.ensures)
    c.test.ensures

pub test-returns-in-Plus : goal.test-returns-in-Plus
test-returns-in-Plus t c =
    let whole = c.in-Unary.is ∙ ap (λ (o : UnaryOperator). v.Unary c.in-Unary.field-0 c.in-Unary.field-1 o c.in-Unary.a) c.in-Plus.is in
    on_ok_weaker
    c.told.result
    (told_part c.args.scope.now.style.now c.args.scope.now.slots.now (Skips c.args.sense) c.args.e.now c.args.t (CoreExpr-F.Unary c.in-Unary.field-0 c.in-Unary.field-1 unary.Plus c.in-Unary.a)
    (ap out-CoreExpr whole ∙ v.outs-Unary c.in-Unary.field-0 c.in-Unary.field-1 unary.Plus c.in-Unary.a) c.args.sense c.args.code.now _ refl)
    c.told.ensures

pub test-returns-in-Minus : goal.test-returns-in-Minus
test-returns-in-Minus t c =
    let whole = c.in-Unary.is ∙ ap (λ (o : UnaryOperator). v.Unary c.in-Unary.field-0 c.in-Unary.field-1 o c.in-Unary.a) c.in-Minus.is in
    on_ok_weaker
    c.told-in-Minus.result
    (told_part c.args.scope.now.style.now c.args.scope.now.slots.now (Skips c.args.sense) c.args.e.now c.args.t (CoreExpr-F.Unary c.in-Unary.field-0 c.in-Unary.field-1 unary.Minus c.in-Unary.a)
    (ap out-CoreExpr whole ∙ v.outs-Unary c.in-Unary.field-0 c.in-Unary.field-1 unary.Minus c.in-Unary.a) c.args.sense c.args.code.now _ refl)
    c.told-in-Minus.ensures

pub test-returns-in-Complement : goal.test-returns-in-Complement
test-returns-in-Complement t c =
    let whole = c.in-Unary.is ∙ ap (λ (o : UnaryOperator). v.Unary c.in-Unary.field-0 c.in-Unary.field-1 o c.in-Unary.a) c.in-Complement.is in
    on_ok_weaker
    c.told-in-Complement.result
    (told_part c.args.scope.now.style.now c.args.scope.now.slots.now (Skips c.args.sense) c.args.e.now c.args.t (CoreExpr-F.Unary c.in-Unary.field-0 c.in-Unary.field-1 unary.Complement c.in-Unary.a)
    (ap out-CoreExpr whole ∙ v.outs-Unary c.in-Unary.field-0 c.in-Unary.field-1 unary.Complement c.in-Unary.a) c.args.sense c.args.code.now _ refl)
    c.told-in-Complement.ensures

pub test-returns-in_ok-test-in-And-2 : goal.test-returns-in_ok-test-in-And-2
test-returns-in_ok-test-in-And-2 t c =
    joined_parts c.args.scope.now.style.now c.args.scope.now.slots.now (Skips c.args.sense) c.args.e.now c.args.t (CoreExpr-F.And c.in-And.field-0 c.in-And.field-1 c.in-And.a c.in-And.b) (ap out-CoreExpr c.in-And.is ∙ v.outs-And c.in-And.field-0 c.in-And.field-1 c.in-And.a c.in-And.b)
    (Skips true) (Skips c.args.sense) (not c.args.sense) c.in-And.a c.get-in-And.result.now c.in-And.b c.get-in-And-2.result.now c.in_ok-place-in-And.place
    c.args.code.now _ _ _ _ refl c.get-in-And.ensures c.get-in-And-2.ensures c.in_ok-test-in-And.ensures c.in_ok-place-in-And.ensures.opened c.in_ok-place-in-And.ensures.place
    c.in_ok-test-in-And-2.ensures c.close_behind.ensures

pub test-returns-in_ok-test-in-Or-2 : goal.test-returns-in_ok-test-in-Or-2
test-returns-in_ok-test-in-Or-2 t c =
    joined_parts c.args.scope.now.style.now c.args.scope.now.slots.now (Skips c.args.sense) c.args.e.now c.args.t (CoreExpr-F.Or c.in-Or.field-0 c.in-Or.field-1 c.in-Or.a c.in-Or.b) (ap out-CoreExpr c.in-Or.is ∙ v.outs-Or c.in-Or.field-0 c.in-Or.field-1 c.in-Or.a c.in-Or.b)
    (Skips false) (Skips c.args.sense) c.args.sense c.in-Or.a c.get-in-Or.result.now c.in-Or.b c.get-in-Or-2.result.now c.in_ok-place-in-Or.place
    c.args.code.now _ _ _ _ refl c.get-in-Or.ensures c.get-in-Or-2.ensures c.in_ok-test-in-Or.ensures c.in_ok-place-in-Or.ensures.opened c.in_ok-place-in-Or.ensures.place
    c.in_ok-test-in-Or-2.ensures c.close_behind-in-Or.ensures

pub arguments-loop-i-preserved : goal.arguments-loop-i-preserved
arguments-loop-i-preserved t c =
    one_more (part_of c.args.scope.now.style.now c.args.scope.now.slots.now) c.args.args.now c.loop-i.i c.args.n c.index-args-i.result c.get.result.now c.loop-i.own c.in_ok-next.next
    c.loop-i.code c.argument.new.code _ c.loop-i-test.true c.index-args-i.is c.get.ensures c.in_ok-next.ensures.code c.in_ok-next.ensures.place c.loop-i.invariant

pub arguments-returns : goal.arguments-returns
arguments-returns t c =
    all_passed (part_of c.args.scope.now.style.now c.args.scope.now.slots.now) c.args.args.now c.loop-i.i c.args.n c.loop-i.own c.loop-i.code _ c.loop-i-test.false c.loop-i.invariant
