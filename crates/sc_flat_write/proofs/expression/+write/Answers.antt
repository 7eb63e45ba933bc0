-- Each kind of expression, by the lemma on its form.
use Rattle.std.proofs.Common.{rules, ◌≡◌, true, false, refl, sym, ap, subst, ◌∙◌}
use Rattle.sc_types.specs.declared.ctype.CType.{CType}
use Rattle.sc_core.specs.declared.expression.CoreExpr.{out-CoreExpr}
use Rattle.sc_core.specs.declared.expression.CoreExpr.TheVariants as variant
use Rattle.sc_core.specs.declared.expression.CoreExpr.TheOpen.{CoreExpr-F}
use Rattle.sc_core.specs.Types.{type_of}
use Rattle.sc_meaning.specs.Expressions.{is_void}
use Rattle.sc_interp_machine.specs.declared.pending.Pair.TheVariants as pair
use Rattle.sc_interp_machine.specs.declared.pending.Single.TheVariants as single
use Rattle.sc_interp_machine.specs.declared.pending.Store.TheVariants as store
use Rattle.sc_points.specs.Points.{Waiting, IsThere, AsPlace, AsValue, answer_of}
use Rattle.sc_flat.specs.declared.instruction.Instruction.{Instruction}
use Rattle.sc_flat.specs.declared.instruction.Operation.TheVariants as op
use Rattle.sc_flat.specs.Written.{Pushed, plainly}
use Rattle.sc_points.specs.declared.held.Held.TheVariants as form
use Rattle.sc_points.proofs.Begins as begins
use Rattle.sc_points.proofs.Shapes as shapes
use Rattle.sc_flat_write.specs.Parts.{arrow_of, is_read, member_of, target_of}
use Rattle.sc_flat_write.proofs.Arms as arm
use Rattle.sc_flat_write.proofs.expression.+write.Goals as goal

pub part-returns : goal.part-returns
part-returns t c = λ texts. (c.slide.new.self, c.in_ok-slide.ensures texts, c.in_ok-w.ensures texts)

pub write_expression-returns-in_ok-w-in-Number : goal.write_expression-returns-in_ok-w-in-Number
write_expression-returns-in_ok-w-in-Number t c =
    let is : out-CoreExpr c.args.e.now ≡ CoreExpr-F.Number c.in-Number.field-0 c.in-Number.field-1 c.in-Number.n = ap out-CoreExpr c.in-Number.is ∙ variant.outs-Number c.in-Number.field-0 c.in-Number.field-1 c.in-Number.n in
    let instruction : c.next-instruction.result ≡ plainly 1 (op.Constant c.args.first c.in-Number.n) = search rules in
    λ texts. arm.number_arm texts c.args.draft.now c.fill.new.draft c.args.e.now c.in-Number.field-0 c.args.first c.in-Number.field-1 c.in_ok-w-in-Number.w c.in-Number.n is c.in_ok-w-in-Number.ensures.held (subst (λ (i : Instruction). Pushed texts c.args.draft.now c.fill.new.draft i) instruction (c.in_ok-w-in-Number.ensures.pushed texts))

pub write_expression-returns-in_ok-w-in-Literal : goal.write_expression-returns-in_ok-w-in-Literal
write_expression-returns-in_ok-w-in-Literal t c =
    let is : out-CoreExpr c.args.e.now ≡ CoreExpr-F.Literal c.in-Literal.field-0 c.in-Literal.field-1 c.in-Literal.i = ap out-CoreExpr c.in-Literal.is ∙ variant.outs-Literal c.in-Literal.field-0 c.in-Literal.field-1 c.in-Literal.i in
    let instruction : c.next-instruction-in-Literal.result ≡ plainly 1 (op.Literal c.args.first c.in-Literal.i) = search rules in
    λ texts. arm.literal_arm texts c.args.draft.now c.fill-in-Literal.new.draft c.args.e.now c.in-Literal.field-0 c.args.first c.in-Literal.field-1 c.in_ok-w-in-Literal.w c.in-Literal.i is c.in_ok-w-in-Literal.ensures.held (subst (λ (i : Instruction). Pushed texts c.args.draft.now c.fill-in-Literal.new.draft i) instruction (c.in_ok-w-in-Literal.ensures.pushed texts))

pub write_expression-returns-in_ok-w-in-Automatic : goal.write_expression-returns-in_ok-w-in-Automatic
write_expression-returns-in_ok-w-in-Automatic t c =
    let is : out-CoreExpr c.args.e.now ≡ CoreExpr-F.Automatic c.in-Automatic.field-0 c.in-Automatic.field-1 c.in-Automatic.b c.in-Automatic.i = ap out-CoreExpr c.in-Automatic.is ∙ variant.outs-Automatic c.in-Automatic.field-0 c.in-Automatic.field-1 c.in-Automatic.b c.in-Automatic.i in
    λ texts. arm.named_arm texts c.args.draft.now c.keep.new.draft c.args.e.now c.in-Automatic.field-0 c.args.first c.in-Automatic.field-1 c.in_ok-w-in-Automatic.w c.in-Automatic.b c.in-Automatic.i is c.in_ok-w-in-Automatic.ensures.held (c.in_ok-w-in-Automatic.ensures.slid texts)

pub write_expression-returns-in_ok-w-in-Static : goal.write_expression-returns-in_ok-w-in-Static
write_expression-returns-in_ok-w-in-Static t c =
    let is : out-CoreExpr c.args.e.now ≡ CoreExpr-F.Static c.in-Static.field-0 c.in-Static.field-1 c.in-Static.key = ap out-CoreExpr c.in-Static.is ∙ variant.outs-Static c.in-Static.field-0 c.in-Static.field-1 c.in-Static.key in
    let same : c.in_ok-key-in-Static.key ≡ c.in-Static.key = search rules in
    let instruction : c.next-instruction-in-Static.result ≡ plainly 1 (op.Static c.args.first c.in_ok-key-in-Static.key) = search rules in
    λ texts. arm.static_arm texts c.args.draft.now c.fill-in-Static.new.draft c.args.e.now c.in-Static.field-0 c.args.first c.in-Static.field-1 c.in_ok-w-in-Static.w c.in-Static.key c.in_ok-key-in-Static.key same is c.in_ok-w-in-Static.ensures.held (subst (λ (i : Instruction). Pushed texts c.args.draft.now c.fill-in-Static.new.draft i) instruction (c.in_ok-w-in-Static.ensures.pushed texts))

pub write_expression-returns-in_ok-w-in-Function : goal.write_expression-returns-in_ok-w-in-Function
write_expression-returns-in_ok-w-in-Function t c =
    let is : out-CoreExpr c.args.e.now ≡ CoreExpr-F.Function c.in-Function.field-0 c.in-Function.field-1 c.in-Function.key = ap out-CoreExpr c.in-Function.is ∙ variant.outs-Function c.in-Function.field-0 c.in-Function.field-1 c.in-Function.key in
    let same : c.in_ok-key-in-Function.key ≡ c.in-Function.key = search rules in
    let instruction : c.next-instruction-in-Function.result ≡ plainly 1 (op.Function c.args.first c.in_ok-key-in-Function.key) = search rules in
    λ texts. arm.function_arm texts c.args.draft.now c.fill-in-Function.new.draft c.args.e.now c.in-Function.field-0 c.args.first c.in-Function.field-1 c.in_ok-w-in-Function.w c.in-Function.key c.in_ok-key-in-Function.key same is c.in_ok-w-in-Function.ensures.held (subst (λ (i : Instruction). Pushed texts c.args.draft.now c.fill-in-Function.new.draft i) instruction (c.in_ok-w-in-Function.ensures.pushed texts))

pub write_expression-returns-in_ok-w-in-Index : goal.write_expression-returns-in_ok-w-in-Index
write_expression-returns-in_ok-w-in-Index t c =
    let is : out-CoreExpr c.args.e.now ≡ CoreExpr-F.Index c.in-Index.field-0 c.in-Index.field-1 c.in-Index.size c.get.result.now c.get-in-Index.result.now = ap out-CoreExpr c.in-Index.is ∙ variant.outs-Index c.in-Index.field-0 c.in-Index.field-1 c.in-Index.size c.in-Index.a c.in-Index.b ∙ ap (λ x. CoreExpr-F.Index c.in-Index.field-0 c.in-Index.field-1 c.in-Index.size x c.in-Index.b) (sym c.get.ensures) ∙ ap (λ x. CoreExpr-F.Index c.in-Index.field-0 c.in-Index.field-1 c.in-Index.size c.get.result.now x) (sym c.get-in-Index.ensures) in
    let left : c.in_ok-s-in-Index.s ≡ type_of c.get.result.now = search rules in
    let right : c.in_ok-t-in-Index.t ≡ type_of c.get-in-Index.result.now = search rules in
    λ texts. arm.both_typed texts c.args.draft.now c.part.new.draft c.part-in-Index.new.draft c.both.new.draft c.args.e.now c.get.result.now c.get-in-Index.result.now c.args.first c.in_ok-x-in-Index.x c.in_ok-y-in-Index.y c.in_ok-w-in-Index.w c.in_ok-s-in-Index.s c.in_ok-t-in-Index.t left right AsPlace (λ (p q : CType). pair.Index c.in-Index.size p q)
    (arm.begins_one texts c.args.e.now c.get.result.now (Waiting.Right (pair.Index c.in-Index.size (type_of c.get.result.now) (type_of c.get-in-Index.result.now)) c.get-in-Index.result.now) (λ u ss ws. begins.index_begins texts u ss ws c.args.e.now c.get.result.now c.get-in-Index.result.now c.in-Index.field-0 c.in-Index.field-1 c.in-Index.size is)) (c.in_ok-x-in-Index.ensures texts) (c.in_ok-y-in-Index.ensures texts)
    (λ a b z. shapes.index_shaped c.in-Index.size (type_of c.get.result.now) (type_of c.get-in-Index.result.now) a b z) c.in_ok-w-in-Index.ensures.there c.in_ok-w-in-Index.ensures.held (c.in_ok-w-in-Index.ensures.pushed texts)

pub write_expression-returns-in_ok-w-in-Binary : goal.write_expression-returns-in_ok-w-in-Binary
write_expression-returns-in_ok-w-in-Binary t c =
    let is : out-CoreExpr c.args.e.now ≡ CoreExpr-F.Binary c.in-Binary.field-0 c.in-Binary.field-1 c.in-Binary.o c.get-in-Binary.result.now c.get-in-Binary-2.result.now = ap out-CoreExpr c.in-Binary.is ∙ variant.outs-Binary c.in-Binary.field-0 c.in-Binary.field-1 c.in-Binary.o c.in-Binary.a c.in-Binary.b ∙ ap (λ x. CoreExpr-F.Binary c.in-Binary.field-0 c.in-Binary.field-1 c.in-Binary.o x c.in-Binary.b) (sym c.get-in-Binary.ensures) ∙ ap (λ x. CoreExpr-F.Binary c.in-Binary.field-0 c.in-Binary.field-1 c.in-Binary.o c.get-in-Binary.result.now x) (sym c.get-in-Binary-2.ensures) in
    let left : c.in_ok-s-in-Binary.s ≡ type_of c.get-in-Binary.result.now = search rules in
    let right : c.in_ok-t-in-Binary.t ≡ type_of c.get-in-Binary-2.result.now = search rules in
    λ texts. arm.both_typed texts c.args.draft.now c.part-in-Binary.new.draft c.part-in-Binary-2.new.draft c.both-in-Binary.new.draft c.args.e.now c.get-in-Binary.result.now c.get-in-Binary-2.result.now c.args.first c.in_ok-x-in-Binary.x c.in_ok-y-in-Binary.y c.in_ok-w-in-Binary.w c.in_ok-s-in-Binary.s c.in_ok-t-in-Binary.t left right AsValue (λ (p q : CType). pair.Binary c.in-Binary.o p q)
    (arm.begins_one texts c.args.e.now c.get-in-Binary.result.now (Waiting.Right (pair.Binary c.in-Binary.o (type_of c.get-in-Binary.result.now) (type_of c.get-in-Binary-2.result.now)) c.get-in-Binary-2.result.now) (λ u ss ws. begins.binary_begins texts u ss ws c.args.e.now c.get-in-Binary.result.now c.get-in-Binary-2.result.now c.in-Binary.field-0 c.in-Binary.field-1 c.in-Binary.o is)) (c.in_ok-x-in-Binary.ensures texts) (c.in_ok-y-in-Binary.ensures texts)
    (λ a b z. shapes.binary_shaped c.in-Binary.o (type_of c.get-in-Binary.result.now) (type_of c.get-in-Binary-2.result.now) a b z) c.in_ok-w-in-Binary.ensures.there c.in_ok-w-in-Binary.ensures.held (c.in_ok-w-in-Binary.ensures.pushed texts)

pub write_expression-returns-in_ok-w-in-Offset : goal.write_expression-returns-in_ok-w-in-Offset
write_expression-returns-in_ok-w-in-Offset t c =
    let is : out-CoreExpr c.args.e.now ≡ CoreExpr-F.Offset c.in-Offset.field-0 c.in-Offset.field-1 c.in-Offset.o c.in-Offset.size c.get-in-Offset.result.now c.get-in-Offset-2.result.now = ap out-CoreExpr c.in-Offset.is ∙ variant.outs-Offset c.in-Offset.field-0 c.in-Offset.field-1 c.in-Offset.o c.in-Offset.size c.in-Offset.a c.in-Offset.b ∙ ap (λ x. CoreExpr-F.Offset c.in-Offset.field-0 c.in-Offset.field-1 c.in-Offset.o c.in-Offset.size x c.in-Offset.b) (sym c.get-in-Offset.ensures) ∙ ap (λ x. CoreExpr-F.Offset c.in-Offset.field-0 c.in-Offset.field-1 c.in-Offset.o c.in-Offset.size c.get-in-Offset.result.now x) (sym c.get-in-Offset-2.ensures) in
    let left : c.in_ok-s-in-Offset.s ≡ type_of c.get-in-Offset.result.now = search rules in
    let right : c.in_ok-t-in-Offset.t ≡ type_of c.get-in-Offset-2.result.now = search rules in
    λ texts. arm.both_typed texts c.args.draft.now c.part-in-Offset.new.draft c.part-in-Offset-2.new.draft c.both-in-Offset.new.draft c.args.e.now c.get-in-Offset.result.now c.get-in-Offset-2.result.now c.args.first c.in_ok-x-in-Offset.x c.in_ok-y-in-Offset.y c.in_ok-w-in-Offset.w c.in_ok-s-in-Offset.s c.in_ok-t-in-Offset.t left right AsValue (λ (p q : CType). pair.Offset c.in-Offset.o c.in-Offset.size p q)
    (arm.begins_one texts c.args.e.now c.get-in-Offset.result.now (Waiting.Right (pair.Offset c.in-Offset.o c.in-Offset.size (type_of c.get-in-Offset.result.now) (type_of c.get-in-Offset-2.result.now)) c.get-in-Offset-2.result.now) (λ u ss ws. begins.offset_begins texts u ss ws c.args.e.now c.get-in-Offset.result.now c.get-in-Offset-2.result.now c.in-Offset.field-0 c.in-Offset.field-1 c.in-Offset.o c.in-Offset.size is)) (c.in_ok-x-in-Offset.ensures texts) (c.in_ok-y-in-Offset.ensures texts)
    (λ a b z. shapes.offset_shaped c.in-Offset.o c.in-Offset.size (type_of c.get-in-Offset.result.now) (type_of c.get-in-Offset-2.result.now) a b z) c.in_ok-w-in-Offset.ensures.there c.in_ok-w-in-Offset.ensures.held (c.in_ok-w-in-Offset.ensures.pushed texts)

pub write_expression-returns-in_ok-w-in-Compound : goal.write_expression-returns-in_ok-w-in-Compound
write_expression-returns-in_ok-w-in-Compound t c =
    let is : out-CoreExpr c.args.e.now ≡ CoreExpr-F.Compound c.in-Compound.field-0 c.in-Compound.field-1 c.in-Compound.o c.in-Compound.i c.get-in-Compound.result.now c.get-in-Compound-2.result.now = ap out-CoreExpr c.in-Compound.is ∙ variant.outs-Compound c.in-Compound.field-0 c.in-Compound.field-1 c.in-Compound.o c.in-Compound.i c.in-Compound.a c.in-Compound.b ∙ ap (λ x. CoreExpr-F.Compound c.in-Compound.field-0 c.in-Compound.field-1 c.in-Compound.o c.in-Compound.i x c.in-Compound.b) (sym c.get-in-Compound.ensures) ∙ ap (λ x. CoreExpr-F.Compound c.in-Compound.field-0 c.in-Compound.field-1 c.in-Compound.o c.in-Compound.i c.get-in-Compound.result.now x) (sym c.get-in-Compound-2.ensures) in
    let left : c.in_ok-s-in-Compound.s ≡ type_of c.get-in-Compound.result.now = search rules in
    let right : c.in_ok-t-in-Compound.t ≡ type_of c.get-in-Compound-2.result.now = search rules in
    λ texts. arm.store_typed texts c.args.draft.now c.part-in-Compound.new.draft c.part-in-Compound-2.new.draft c.stores-in-Compound.new.draft c.args.e.now c.get-in-Compound.result.now c.get-in-Compound-2.result.now c.args.first c.in_ok-x-in-Compound.x c.in_ok-y-in-Compound.y c.in_ok-w-in-Compound.w c.in_ok-s-in-Compound.s c.in_ok-t-in-Compound.t left right (λ (p q : CType). store.Compound c.in-Compound.o c.in-Compound.i p q)
    (arm.begins_one texts c.args.e.now c.get-in-Compound.result.now (Waiting.StoreRight (store.Compound c.in-Compound.o c.in-Compound.i (type_of c.get-in-Compound.result.now) (type_of c.get-in-Compound-2.result.now)) c.get-in-Compound-2.result.now) (λ u ss ws. begins.compound_begins texts u ss ws c.args.e.now c.get-in-Compound.result.now c.get-in-Compound-2.result.now c.in-Compound.field-0 c.in-Compound.field-1 c.in-Compound.o c.in-Compound.i is)) (c.in_ok-x-in-Compound.ensures texts) (c.in_ok-y-in-Compound.ensures texts)
    (λ a b z. shapes.compound_shaped c.in-Compound.o c.in-Compound.i (type_of c.get-in-Compound.result.now) (type_of c.get-in-Compound-2.result.now) a b z) c.in_ok-w-in-Compound.ensures.there c.in_ok-w-in-Compound.ensures.held (c.in_ok-w-in-Compound.ensures.pushed texts)

pub write_expression-returns-in_ok-w-in-CompoundOffset : goal.write_expression-returns-in_ok-w-in-CompoundOffset
write_expression-returns-in_ok-w-in-CompoundOffset t c =
    let is : out-CoreExpr c.args.e.now ≡ CoreExpr-F.CompoundOffset c.in-CompoundOffset.field-0 c.in-CompoundOffset.field-1 c.in-CompoundOffset.o c.in-CompoundOffset.size c.get-in-CompoundOffset.result.now c.get-in-CompoundOffset-2.result.now = ap out-CoreExpr c.in-CompoundOffset.is ∙ variant.outs-CompoundOffset c.in-CompoundOffset.field-0 c.in-CompoundOffset.field-1 c.in-CompoundOffset.o c.in-CompoundOffset.size c.in-CompoundOffset.a c.in-CompoundOffset.b ∙ ap (λ x. CoreExpr-F.CompoundOffset c.in-CompoundOffset.field-0 c.in-CompoundOffset.field-1 c.in-CompoundOffset.o c.in-CompoundOffset.size x c.in-CompoundOffset.b) (sym c.get-in-CompoundOffset.ensures) ∙ ap (λ x. CoreExpr-F.CompoundOffset c.in-CompoundOffset.field-0 c.in-CompoundOffset.field-1 c.in-CompoundOffset.o c.in-CompoundOffset.size c.get-in-CompoundOffset.result.now x) (sym c.get-in-CompoundOffset-2.ensures) in
    let left : c.in_ok-s-in-CompoundOffset.s ≡ type_of c.get-in-CompoundOffset.result.now = search rules in
    let right : c.in_ok-t-in-CompoundOffset.t ≡ type_of c.get-in-CompoundOffset-2.result.now = search rules in
    λ texts. arm.store_typed texts c.args.draft.now c.part-in-CompoundOffset.new.draft c.part-in-CompoundOffset-2.new.draft c.stores-in-CompoundOffset.new.draft c.args.e.now c.get-in-CompoundOffset.result.now c.get-in-CompoundOffset-2.result.now c.args.first c.in_ok-x-in-CompoundOffset.x c.in_ok-y-in-CompoundOffset.y c.in_ok-w-in-CompoundOffset.w c.in_ok-s-in-CompoundOffset.s c.in_ok-t-in-CompoundOffset.t left right (λ (p q : CType). store.Move c.in-CompoundOffset.o c.in-CompoundOffset.size p q)
    (arm.begins_one texts c.args.e.now c.get-in-CompoundOffset.result.now (Waiting.StoreRight (store.Move c.in-CompoundOffset.o c.in-CompoundOffset.size (type_of c.get-in-CompoundOffset.result.now) (type_of c.get-in-CompoundOffset-2.result.now)) c.get-in-CompoundOffset-2.result.now) (λ u ss ws. begins.compound_offset_begins texts u ss ws c.args.e.now c.get-in-CompoundOffset.result.now c.get-in-CompoundOffset-2.result.now c.in-CompoundOffset.field-0 c.in-CompoundOffset.field-1 c.in-CompoundOffset.o c.in-CompoundOffset.size is)) (c.in_ok-x-in-CompoundOffset.ensures texts) (c.in_ok-y-in-CompoundOffset.ensures texts)
    (λ a b z. shapes.move_shaped c.in-CompoundOffset.o c.in-CompoundOffset.size (type_of c.get-in-CompoundOffset.result.now) (type_of c.get-in-CompoundOffset-2.result.now) a b z) c.in_ok-w-in-CompoundOffset.ensures.there c.in_ok-w-in-CompoundOffset.ensures.held (c.in_ok-w-in-CompoundOffset.ensures.pushed texts)

pub write_expression-returns-in_ok-w-in-Assign : goal.write_expression-returns-in_ok-w-in-Assign
write_expression-returns-in_ok-w-in-Assign t c =
    let is : out-CoreExpr c.args.e.now ≡ CoreExpr-F.Assign c.in-Assign.field-0 c.in-Assign.field-1 c.get-in-Assign.result.now c.get-in-Assign-2.result.now = ap out-CoreExpr c.in-Assign.is ∙ variant.outs-Assign c.in-Assign.field-0 c.in-Assign.field-1 c.in-Assign.a c.in-Assign.b ∙ ap (λ x. CoreExpr-F.Assign c.in-Assign.field-0 c.in-Assign.field-1 x c.in-Assign.b) (sym c.get-in-Assign.ensures) ∙ ap (λ x. CoreExpr-F.Assign c.in-Assign.field-0 c.in-Assign.field-1 c.get-in-Assign.result.now x) (sym c.get-in-Assign-2.ensures) in
    let left : c.in_ok-t-in-Assign.t ≡ type_of c.get-in-Assign.result.now = search rules in
    λ texts. arm.store_typed texts c.args.draft.now c.part-in-Assign.new.draft c.part-in-Assign-2.new.draft c.stores.new.draft c.args.e.now c.get-in-Assign.result.now c.get-in-Assign-2.result.now c.args.first c.in_ok-x-in-Assign.x c.in_ok-y-in-Assign.y c.in_ok-w-in-Assign.w c.in_ok-t-in-Assign.t (type_of c.get-in-Assign-2.result.now) left refl (λ (p q : CType). store.Assign p)
    (arm.begins_one texts c.args.e.now c.get-in-Assign.result.now (Waiting.StoreRight (store.Assign (type_of c.get-in-Assign.result.now)) c.get-in-Assign-2.result.now) (λ u ss ws. begins.assign_begins texts u ss ws c.args.e.now c.get-in-Assign.result.now c.get-in-Assign-2.result.now c.in-Assign.field-0 c.in-Assign.field-1 is)) (c.in_ok-x-in-Assign.ensures texts) (c.in_ok-y-in-Assign.ensures texts)
    (λ a b z. shapes.assign_shaped (type_of c.get-in-Assign.result.now) a b z) c.in_ok-w-in-Assign.ensures.there c.in_ok-w-in-Assign.ensures.held (c.in_ok-w-in-Assign.ensures.pushed texts)

pub write_expression-returns-in_ok-w-in-Difference : goal.write_expression-returns-in_ok-w-in-Difference
write_expression-returns-in_ok-w-in-Difference t c =
    let is : out-CoreExpr c.args.e.now ≡ CoreExpr-F.Difference c.in-Difference.field-0 c.in-Difference.field-1 c.in-Difference.size c.get-in-Difference.result.now c.get-in-Difference-2.result.now = ap out-CoreExpr c.in-Difference.is ∙ variant.outs-Difference c.in-Difference.field-0 c.in-Difference.field-1 c.in-Difference.size c.in-Difference.a c.in-Difference.b ∙ ap (λ x. CoreExpr-F.Difference c.in-Difference.field-0 c.in-Difference.field-1 c.in-Difference.size x c.in-Difference.b) (sym c.get-in-Difference.ensures) ∙ ap (λ x. CoreExpr-F.Difference c.in-Difference.field-0 c.in-Difference.field-1 c.in-Difference.size c.get-in-Difference.result.now x) (sym c.get-in-Difference-2.ensures) in
    λ texts. arm.both_arm texts AsValue c.args.draft.now c.part-in-Difference.new.draft c.part-in-Difference-2.new.draft c.both-in-Difference.new.draft c.args.e.now c.get-in-Difference.result.now c.get-in-Difference-2.result.now (pair.Difference c.in-Difference.size) c.args.first c.in_ok-x-in-Difference.x c.in_ok-y-in-Difference.y c.in_ok-w-in-Difference.w
    (arm.begins_one texts c.args.e.now c.get-in-Difference.result.now (Waiting.Right (pair.Difference c.in-Difference.size) c.get-in-Difference-2.result.now) (λ u ss ws. begins.difference_begins texts u ss ws c.args.e.now c.get-in-Difference.result.now c.get-in-Difference-2.result.now c.in-Difference.field-0 c.in-Difference.field-1 c.in-Difference.size is)) (c.in_ok-x-in-Difference.ensures texts) (c.in_ok-y-in-Difference.ensures texts)
    (λ a b z. shapes.difference_shaped c.in-Difference.size a b z) c.in_ok-w-in-Difference.ensures.there c.in_ok-w-in-Difference.ensures.held (c.in_ok-w-in-Difference.ensures.pushed texts)

pub write_expression-returns-in_ok-w-in-Compare : goal.write_expression-returns-in_ok-w-in-Compare
write_expression-returns-in_ok-w-in-Compare t c =
    let is : out-CoreExpr c.args.e.now ≡ CoreExpr-F.Compare c.in-Compare.field-0 c.in-Compare.field-1 c.in-Compare.o c.get-in-Compare.result.now c.get-in-Compare-2.result.now = ap out-CoreExpr c.in-Compare.is ∙ variant.outs-Compare c.in-Compare.field-0 c.in-Compare.field-1 c.in-Compare.o c.in-Compare.a c.in-Compare.b ∙ ap (λ x. CoreExpr-F.Compare c.in-Compare.field-0 c.in-Compare.field-1 c.in-Compare.o x c.in-Compare.b) (sym c.get-in-Compare.ensures) ∙ ap (λ x. CoreExpr-F.Compare c.in-Compare.field-0 c.in-Compare.field-1 c.in-Compare.o c.get-in-Compare.result.now x) (sym c.get-in-Compare-2.ensures) in
    λ texts. arm.both_arm texts AsValue c.args.draft.now c.part-in-Compare.new.draft c.part-in-Compare-2.new.draft c.both-in-Compare.new.draft c.args.e.now c.get-in-Compare.result.now c.get-in-Compare-2.result.now (pair.Compare c.in-Compare.o) c.args.first c.in_ok-x-in-Compare.x c.in_ok-y-in-Compare.y c.in_ok-w-in-Compare.w
    (arm.begins_one texts c.args.e.now c.get-in-Compare.result.now (Waiting.Right (pair.Compare c.in-Compare.o) c.get-in-Compare-2.result.now) (λ u ss ws. begins.compare_begins texts u ss ws c.args.e.now c.get-in-Compare.result.now c.get-in-Compare-2.result.now c.in-Compare.field-0 c.in-Compare.field-1 c.in-Compare.o is)) (c.in_ok-x-in-Compare.ensures texts) (c.in_ok-y-in-Compare.ensures texts)
    (λ a b z. shapes.compare_shaped c.in-Compare.o a b z) c.in_ok-w-in-Compare.ensures.there c.in_ok-w-in-Compare.ensures.held (c.in_ok-w-in-Compare.ensures.pushed texts)

pub write_expression-returns-in_ok-w-in-AssignStructure : goal.write_expression-returns-in_ok-w-in-AssignStructure
write_expression-returns-in_ok-w-in-AssignStructure t c =
    let is : out-CoreExpr c.args.e.now ≡ CoreExpr-F.AssignStructure c.in-AssignStructure.field-0 c.in-AssignStructure.field-1 c.in-AssignStructure.size c.get-in-AssignStructure.result.now c.get-in-AssignStructure-2.result.now = ap out-CoreExpr c.in-AssignStructure.is ∙ variant.outs-AssignStructure c.in-AssignStructure.field-0 c.in-AssignStructure.field-1 c.in-AssignStructure.size c.in-AssignStructure.a c.in-AssignStructure.b ∙ ap (λ x. CoreExpr-F.AssignStructure c.in-AssignStructure.field-0 c.in-AssignStructure.field-1 c.in-AssignStructure.size x c.in-AssignStructure.b) (sym c.get-in-AssignStructure.ensures) ∙ ap (λ x. CoreExpr-F.AssignStructure c.in-AssignStructure.field-0 c.in-AssignStructure.field-1 c.in-AssignStructure.size c.get-in-AssignStructure.result.now x) (sym c.get-in-AssignStructure-2.ensures) in
    λ texts. arm.copies_arm texts c.args.draft.now c.part-in-AssignStructure.new.draft c.part-in-AssignStructure-2.new.draft c.copies.new.draft c.args.e.now c.get-in-AssignStructure.result.now c.get-in-AssignStructure-2.result.now c.in-AssignStructure.size c.args.first c.in_ok-x-in-AssignStructure.x c.in_ok-y-in-AssignStructure.y c.in_ok-w-in-AssignStructure.w
    (arm.begins_one texts c.args.e.now c.get-in-AssignStructure.result.now (Waiting.StructureRight c.in-AssignStructure.size c.get-in-AssignStructure-2.result.now) (λ u ss ws. begins.structure_begins texts u ss ws c.args.e.now c.get-in-AssignStructure.result.now c.get-in-AssignStructure-2.result.now c.in-AssignStructure.field-0 c.in-AssignStructure.field-1 c.in-AssignStructure.size is)) (c.in_ok-x-in-AssignStructure.ensures texts) (c.in_ok-y-in-AssignStructure.ensures texts) c.in_ok-w-in-AssignStructure.ensures.held (c.in_ok-w-in-AssignStructure.ensures.pushed texts)

pub write_expression-returns-in_ok-w-in-Comma : goal.write_expression-returns-in_ok-w-in-Comma
write_expression-returns-in_ok-w-in-Comma t c =
    let is : out-CoreExpr c.args.e.now ≡ CoreExpr-F.Comma c.in-Comma.field-0 c.in-Comma.field-1 c.get-in-Comma.result.now c.get-in-Comma-2.result.now = ap out-CoreExpr c.in-Comma.is ∙ variant.outs-Comma c.in-Comma.field-0 c.in-Comma.field-1 c.in-Comma.a c.in-Comma.b ∙ ap (λ x. CoreExpr-F.Comma c.in-Comma.field-0 c.in-Comma.field-1 x c.in-Comma.b) (sym c.get-in-Comma.ensures) ∙ ap (λ x. CoreExpr-F.Comma c.in-Comma.field-0 c.in-Comma.field-1 c.get-in-Comma.result.now x) (sym c.get-in-Comma-2.ensures) in
    λ texts. arm.comma_arm texts c.args.draft.now c.part-in-Comma.new.draft c.part-in-Comma-2.new.draft c.keep-in-Comma.new.draft c.args.e.now c.get-in-Comma.result.now c.get-in-Comma-2.result.now c.args.first c.in_ok-x-in-Comma.x c.in_ok-y-in-Comma.y c.in_ok-w-in-Comma.w
    (arm.begins_one texts c.args.e.now c.get-in-Comma.result.now (Waiting.Then c.get-in-Comma-2.result.now) (λ u ss ws. begins.comma_begins texts u ss ws c.args.e.now c.get-in-Comma.result.now c.get-in-Comma-2.result.now c.in-Comma.field-0 c.in-Comma.field-1 is)) (c.in_ok-x-in-Comma.ensures texts) (c.in_ok-y-in-Comma.ensures texts) c.in_ok-w-in-Comma.ensures.held (c.in_ok-w-in-Comma.ensures.slid texts)

pub write_expression-returns-in_ok-w-in-Step : goal.write_expression-returns-in_ok-w-in-Step
write_expression-returns-in_ok-w-in-Step t c =
    let is : out-CoreExpr c.args.e.now ≡ CoreExpr-F.Step c.in-Step.field-0 c.in-Step.field-1 c.in-Step.s c.in-Step.n c.get-in-Step.result.now = ap out-CoreExpr c.in-Step.is ∙ variant.outs-Step c.in-Step.field-0 c.in-Step.field-1 c.in-Step.s c.in-Step.n c.in-Step.a ∙ ap (λ x. CoreExpr-F.Step c.in-Step.field-0 c.in-Step.field-1 c.in-Step.s c.in-Step.n x) (sym c.get-in-Step.ensures) in
    let same : c.in_ok-t-in-Step.t ≡ type_of c.get-in-Step.result.now = search rules in
    λ texts. arm.alone_typed texts c.args.draft.now c.part-in-Step.new.draft c.alone.new.draft c.args.e.now c.get-in-Step.result.now 1 c.args.first c.in_ok-x-in-Step.x c.in_ok-w-in-Step.w (c.in_ok-t-in-Step.t) (type_of c.get-in-Step.result.now) same (λ (q : CType). single.Increment c.in-Step.s c.in-Step.n q)
    (arm.begins_one texts c.args.e.now c.get-in-Step.result.now (Waiting.Alone (single.Increment c.in-Step.s c.in-Step.n (type_of c.get-in-Step.result.now))) (λ u ss ws. begins.increment_begins texts u ss ws c.args.e.now c.get-in-Step.result.now c.in-Step.field-0 c.in-Step.field-1 c.in-Step.s c.in-Step.n is)) (c.in_ok-x-in-Step.ensures texts) (λ f z there. shapes.increment_shaped c.in-Step.s c.in-Step.n (type_of c.get-in-Step.result.now) (answer_of f c.in_ok-x-in-Step.x.held) z) c.in_ok-w-in-Step.ensures.there c.in_ok-w-in-Step.ensures.held (c.in_ok-w-in-Step.ensures.pushed texts)

pub write_expression-returns-in_ok-w-in-Unary : goal.write_expression-returns-in_ok-w-in-Unary
write_expression-returns-in_ok-w-in-Unary t c =
    let is : out-CoreExpr c.args.e.now ≡ CoreExpr-F.Unary c.in-Unary.field-0 c.in-Unary.field-1 c.in-Unary.o c.get-in-Unary.result.now = ap out-CoreExpr c.in-Unary.is ∙ variant.outs-Unary c.in-Unary.field-0 c.in-Unary.field-1 c.in-Unary.o c.in-Unary.a ∙ ap (λ x. CoreExpr-F.Unary c.in-Unary.field-0 c.in-Unary.field-1 c.in-Unary.o x) (sym c.get-in-Unary.ensures) in
    let same : c.in_ok-t-in-Unary.t ≡ type_of c.get-in-Unary.result.now = search rules in
    λ texts. arm.alone_typed texts c.args.draft.now c.part-in-Unary.new.draft c.alone-in-Unary.new.draft c.args.e.now c.get-in-Unary.result.now 1 c.args.first c.in_ok-x-in-Unary.x c.in_ok-w-in-Unary.w (c.in_ok-t-in-Unary.t) (type_of c.get-in-Unary.result.now) same (λ (q : CType). single.Unary c.in-Unary.o q)
    (arm.begins_one texts c.args.e.now c.get-in-Unary.result.now (Waiting.Alone (single.Unary c.in-Unary.o (type_of c.get-in-Unary.result.now))) (λ u ss ws. begins.unary_begins texts u ss ws c.args.e.now c.get-in-Unary.result.now c.in-Unary.field-0 c.in-Unary.field-1 c.in-Unary.o is)) (c.in_ok-x-in-Unary.ensures texts) (λ f z there. shapes.unary_shaped c.in-Unary.o (type_of c.get-in-Unary.result.now) (answer_of f c.in_ok-x-in-Unary.x.held) z) c.in_ok-w-in-Unary.ensures.there c.in_ok-w-in-Unary.ensures.held (c.in_ok-w-in-Unary.ensures.pushed texts)

pub write_expression-returns-in_ok-w-in-Address : goal.write_expression-returns-in_ok-w-in-Address
write_expression-returns-in_ok-w-in-Address t c =
    let is : out-CoreExpr c.args.e.now ≡ CoreExpr-F.Address c.in-Address.field-0 c.in-Address.field-1 c.get-in-Address.result.now = ap out-CoreExpr c.in-Address.is ∙ variant.outs-Address c.in-Address.field-0 c.in-Address.field-1 c.in-Address.a ∙ ap (λ x. CoreExpr-F.Address c.in-Address.field-0 c.in-Address.field-1 x) (sym c.get-in-Address.ensures) in
    λ texts. arm.alone_typed texts c.args.draft.now c.part-in-Address.new.draft c.alone-in-Address.new.draft c.args.e.now c.get-in-Address.result.now 1 c.args.first c.in_ok-x-in-Address.x c.in_ok-w-in-Address.w (type_of c.get-in-Address.result.now) (type_of c.get-in-Address.result.now) refl (λ (q : CType). single.Address)
    (arm.begins_one texts c.args.e.now c.get-in-Address.result.now (Waiting.Alone (single.Address)) (λ u ss ws. begins.address_begins texts u ss ws c.args.e.now c.get-in-Address.result.now c.in-Address.field-0 c.in-Address.field-1 is)) (c.in_ok-x-in-Address.ensures texts) (λ f z there. shapes.address_shaped (answer_of f c.in_ok-x-in-Address.x.held) z) c.in_ok-w-in-Address.ensures.there c.in_ok-w-in-Address.ensures.held (c.in_ok-w-in-Address.ensures.pushed texts)

pub write_expression-returns-in_ok-w-in-Convert : goal.write_expression-returns-in_ok-w-in-Convert
write_expression-returns-in_ok-w-in-Convert t c =
    let is : out-CoreExpr c.args.e.now ≡ CoreExpr-F.Convert c.in-Convert.field-0 c.in-Convert.t c.get-in-Convert.result.now = ap out-CoreExpr c.in-Convert.is ∙ variant.outs-Convert c.in-Convert.field-0 c.in-Convert.t c.in-Convert.a ∙ ap (λ x. CoreExpr-F.Convert c.in-Convert.field-0 c.in-Convert.t x) (sym c.get-in-Convert.ensures) in
    let from : c.in_ok-s-in-Convert.s ≡ type_of c.get-in-Convert.result.now = search rules in
    let same : c.in_ok-t-in-Convert.t ≡ c.in-Convert.t = search rules in
    let read : is_read (type_of c.get-in-Convert.result.now) ≡ true = search rules in
    λ texts. arm.convert_arm texts c.args.draft.now c.part-in-Convert.new.draft c.alone-then-is_read.new.draft c.args.e.now c.get-in-Convert.result.now c.in-Convert.field-0 c.args.first c.in-Convert.t c.in_ok-s-in-Convert.s c.in_ok-t-in-Convert.t c.in_ok-x-in-Convert.x c.in_ok-w-in-Convert.w is from same read (c.in_ok-x-in-Convert.ensures texts) c.in_ok-w-in-Convert.ensures.there c.in_ok-w-in-Convert.ensures.held (c.in_ok-w-in-Convert.ensures.pushed texts)

pub write_expression-returns-in_ok-w-in-Some : goal.write_expression-returns-in_ok-w-in-Some
write_expression-returns-in_ok-w-in-Some t c =
    let is : out-CoreExpr c.args.e.now ≡ CoreExpr-F.Member c.in-Member.field-0 c.in-Member.field-1 c.in-Member.n c.get-in-Member.result.now = ap out-CoreExpr c.in-Member.is ∙ variant.outs-Member c.in-Member.field-0 c.in-Member.field-1 c.in-Member.n c.in-Member.a ∙ ap (λ x. CoreExpr-F.Member c.in-Member.field-0 c.in-Member.field-1 c.in-Member.n x) (sym c.get-in-Member.ensures) in
    let held : c.in-Some.held ≡ member_of c.in-Member.n c.in_ok-x-in-Member.x.held = search rules in
    λ texts. arm.keep_arm texts c.args.draft.now c.part-in-Member.new.draft c.keep-in-Some.new.draft c.args.e.now c.get-in-Member.result.now (single.Member c.in-Member.n) 1 1 c.args.first (member_of c.in-Member.n c.in_ok-x-in-Member.x.held) c.in_ok-x-in-Member.x c.in_ok-w-in-Some.w
    (arm.begins_one texts c.args.e.now c.get-in-Member.result.now (Waiting.Alone (single.Member c.in-Member.n)) (λ u ss ws. begins.member_begins texts u ss ws c.args.e.now c.get-in-Member.result.now c.in-Member.field-0 c.in-Member.field-1 c.in-Member.n is)) (c.in_ok-x-in-Member.ensures texts) (λ f z. arm.member_same c.in-Member.n c.in_ok-x-in-Member.x.held f z) (arm.member_free c.in-Member.n c.in_ok-x-in-Member.x.held) (c.in_ok-w-in-Some.ensures.held.0 ∙ held, c.in_ok-w-in-Some.ensures.held.1) (c.in_ok-w-in-Some.ensures.slid texts)

pub write_expression-returns-in_ok-w-in-Cast : goal.write_expression-returns-in_ok-w-in-Cast
write_expression-returns-in_ok-w-in-Cast t c =
    let is : out-CoreExpr c.args.e.now ≡ CoreExpr-F.Cast c.in-Cast.field-0 c.in-Cast.t c.get-in-Cast.result.now = ap out-CoreExpr c.in-Cast.is ∙ variant.outs-Cast c.in-Cast.field-0 c.in-Cast.t c.in-Cast.a ∙ ap (λ x. CoreExpr-F.Cast c.in-Cast.field-0 c.in-Cast.t x) (sym c.get-in-Cast.ensures) in
    let void : is_void c.in-Cast.t ≡ true = search rules in
    λ texts. arm.keep_arm texts c.args.draft.now c.part-in-Cast.new.draft c.keep-then-is_void.new.draft c.args.e.now c.get-in-Cast.result.now (single.Cast c.in-Cast.t) 1 1 c.args.first form.Void c.in_ok-x-in-Cast.x c.in_ok-w-in-Cast.w
    (arm.begins_one texts c.args.e.now c.get-in-Cast.result.now (Waiting.Alone (single.Cast c.in-Cast.t)) (λ u ss ws. begins.cast_begins texts u ss ws c.args.e.now c.get-in-Cast.result.now c.in-Cast.field-0 c.in-Cast.t is)) (c.in_ok-x-in-Cast.ensures texts) (λ f z. arm.void_same c.in-Cast.t c.in_ok-x-in-Cast.x.held f z void) (arm.void_free c.in_ok-x-in-Cast.x.held) c.in_ok-w-in-Cast.ensures.held (c.in_ok-w-in-Cast.ensures.slid texts)

pub write_expression-returns-in_ok-w-in-And : goal.write_expression-returns-in_ok-w-in-And
write_expression-returns-in_ok-w-in-And t c =
    let is : out-CoreExpr c.args.e.now ≡ CoreExpr-F.And c.in-And.field-0 c.in-And.field-1 c.get-in-And.result.now c.get-in-And-3.result.now = ap out-CoreExpr c.in-And.is ∙ variant.outs-And c.in-And.field-0 c.in-And.field-1 c.in-And.a c.in-And.b ∙ ap (λ x. CoreExpr-F.And c.in-And.field-0 c.in-And.field-1 x c.in-And.b) (sym c.get-in-And.ensures) ∙ ap (λ x. CoreExpr-F.And c.in-And.field-0 c.in-And.field-1 c.get-in-And.result.now x) (sym c.get-in-And-3.ensures) in
    let left : c.in_ok-s-in-And.s ≡ type_of c.get-in-And.result.now = search rules in
    let right : c.in_ok-t-in-And.t ≡ type_of c.get-in-And-3.result.now = search rules in
    λ texts. arm.and_arm texts c.args.draft.now c.part-in-And.new.draft c.tests_and.new.draft c.write_expression.new.draft c.decided.new.draft c.args.e.now c.get-in-And.result.now c.get-in-And-3.result.now c.in_ok-s-in-And.s c.in_ok-t-in-And.t c.args.first c.in_ok-label-in-And.label c.in_ok-x-in-And.x c.in_ok-y-in-And.y c.in_ok-w-in-And.w
    (arm.begins_typed texts c.args.e.now c.get-in-And.result.now (λ (p q : CType). Waiting.And p q c.get-in-And-3.result.now) (type_of c.get-in-And.result.now) (type_of c.get-in-And-3.result.now) c.in_ok-s-in-And.s c.in_ok-t-in-And.t left right (arm.begins_one texts c.args.e.now c.get-in-And.result.now (Waiting.And (type_of c.get-in-And.result.now) (type_of c.get-in-And-3.result.now) c.get-in-And-3.result.now) (λ u ss ws. begins.and_begins texts u ss ws c.args.e.now c.get-in-And.result.now c.get-in-And-3.result.now c.in-And.field-0 c.in-And.field-1 is))) (c.in_ok-x-in-And.ensures texts) c.in_ok-label-in-And.ensures.there (c.in_ok-label-in-And.ensures.tests texts)
    (c.in_ok-y-in-And.ensures texts) c.in_ok-w-in-And.ensures.there c.in_ok-w-in-And.ensures.held (c.in_ok-w-in-And.ensures.tests texts)

pub write_expression-returns-in_ok-w-in-Or : goal.write_expression-returns-in_ok-w-in-Or
write_expression-returns-in_ok-w-in-Or t c =
    let is : out-CoreExpr c.args.e.now ≡ CoreExpr-F.Or c.in-Or.field-0 c.in-Or.field-1 c.get-in-Or.result.now c.get-in-Or-3.result.now = ap out-CoreExpr c.in-Or.is ∙ variant.outs-Or c.in-Or.field-0 c.in-Or.field-1 c.in-Or.a c.in-Or.b ∙ ap (λ x. CoreExpr-F.Or c.in-Or.field-0 c.in-Or.field-1 x c.in-Or.b) (sym c.get-in-Or.ensures) ∙ ap (λ x. CoreExpr-F.Or c.in-Or.field-0 c.in-Or.field-1 c.get-in-Or.result.now x) (sym c.get-in-Or-3.ensures) in
    let left : c.in_ok-s-in-Or.s ≡ type_of c.get-in-Or.result.now = search rules in
    let right : c.in_ok-t-in-Or.t ≡ type_of c.get-in-Or-3.result.now = search rules in
    λ texts. arm.or_arm texts c.args.draft.now c.part-in-Or.new.draft c.tests_or.new.draft c.write_expression-in-Or.new.draft c.decided-in-Or.new.draft c.args.e.now c.get-in-Or.result.now c.get-in-Or-3.result.now c.in_ok-s-in-Or.s c.in_ok-t-in-Or.t c.args.first c.in_ok-label-in-Or.label c.in_ok-x-in-Or.x c.in_ok-y-in-Or.y c.in_ok-w-in-Or.w
    (arm.begins_typed texts c.args.e.now c.get-in-Or.result.now (λ (p q : CType). Waiting.Or p q c.get-in-Or-3.result.now) (type_of c.get-in-Or.result.now) (type_of c.get-in-Or-3.result.now) c.in_ok-s-in-Or.s c.in_ok-t-in-Or.t left right (arm.begins_one texts c.args.e.now c.get-in-Or.result.now (Waiting.Or (type_of c.get-in-Or.result.now) (type_of c.get-in-Or-3.result.now) c.get-in-Or-3.result.now) (λ u ss ws. begins.or_begins texts u ss ws c.args.e.now c.get-in-Or.result.now c.get-in-Or-3.result.now c.in-Or.field-0 c.in-Or.field-1 is))) (c.in_ok-x-in-Or.ensures texts) c.in_ok-label-in-Or.ensures.there (c.in_ok-label-in-Or.ensures.tests texts)
    (c.in_ok-y-in-Or.ensures texts) c.in_ok-w-in-Or.ensures.there c.in_ok-w-in-Or.ensures.held (c.in_ok-w-in-Or.ensures.tests texts)

pub write_expression-returns-in_ok-w-in-Conditional : goal.write_expression-returns-in_ok-w-in-Conditional
write_expression-returns-in_ok-w-in-Conditional t c =
    let is : out-CoreExpr c.args.e.now ≡ CoreExpr-F.Conditional c.in-Conditional.field-0 c.in-Conditional.field-1 c.get-in-Conditional.result.now c.get-in-Conditional-3.result.now c.get-in-Conditional-4.result.now = ap out-CoreExpr c.in-Conditional.is ∙ variant.outs-Conditional c.in-Conditional.field-0 c.in-Conditional.field-1 c.in-Conditional.a c.in-Conditional.b c.in-Conditional.c ∙ ap (λ x. CoreExpr-F.Conditional c.in-Conditional.field-0 c.in-Conditional.field-1 x c.in-Conditional.b c.in-Conditional.c) (sym c.get-in-Conditional.ensures) ∙ ap (λ x. CoreExpr-F.Conditional c.in-Conditional.field-0 c.in-Conditional.field-1 c.get-in-Conditional.result.now x c.in-Conditional.c) (sym c.get-in-Conditional-3.ensures) ∙ ap (λ x. CoreExpr-F.Conditional c.in-Conditional.field-0 c.in-Conditional.field-1 c.get-in-Conditional.result.now c.get-in-Conditional-3.result.now x) (sym c.get-in-Conditional-4.ensures) in
    let left : c.in_ok-t-in-Conditional.t ≡ type_of c.get-in-Conditional.result.now = search rules in
    λ texts. arm.choice_arm texts c.args.draft.now c.part-in-Conditional.new.draft c.chooses.new.draft c.write_expression-in-Conditional.new.draft c.turns.new.draft c.write_expression-in-Conditional-2.new.draft c.chosen.new.draft c.args.e.now c.get-in-Conditional.result.now c.get-in-Conditional-3.result.now c.get-in-Conditional-4.result.now c.in_ok-t-in-Conditional.t c.args.first c.in_ok-ways-in-Conditional.ways.other c.in_ok-ways-in-Conditional.ways.end c.in_ok-x-in-Conditional.x c.in_ok-y-in-Conditional.y c.in_ok-z-in-Conditional.z c.in_ok-w-in-Conditional.w
    (arm.begins_typed texts c.args.e.now c.get-in-Conditional.result.now (λ (p q : CType). Waiting.Choice p c.get-in-Conditional-3.result.now c.get-in-Conditional-4.result.now) (type_of c.get-in-Conditional.result.now) (type_of c.get-in-Conditional.result.now) c.in_ok-t-in-Conditional.t c.in_ok-t-in-Conditional.t left left (arm.begins_one texts c.args.e.now c.get-in-Conditional.result.now (Waiting.Choice (type_of c.get-in-Conditional.result.now) c.get-in-Conditional-3.result.now c.get-in-Conditional-4.result.now) (λ u ss ws. begins.conditional_begins texts u ss ws c.args.e.now c.get-in-Conditional.result.now c.get-in-Conditional-3.result.now c.get-in-Conditional-4.result.now c.in-Conditional.field-0 c.in-Conditional.field-1 is))) (c.in_ok-x-in-Conditional.ensures texts) c.in_ok-ways-in-Conditional.ensures.there (c.in_ok-ways-in-Conditional.ensures.tests texts)
    (c.in_ok-y-in-Conditional.ensures texts) (c.in_ok-turns-in-Conditional.ensures.turns texts) (c.in_ok-z-in-Conditional.ensures texts) c.in_ok-w-in-Conditional.ensures.alike c.in_ok-w-in-Conditional.ensures.held (c.in_ok-w-in-Conditional.ensures.ends texts)

pub write_expression-returns-in_ok-w-in-Arrow : goal.write_expression-returns-in_ok-w-in-Arrow
write_expression-returns-in_ok-w-in-Arrow t c =
    let is : out-CoreExpr c.args.e.now ≡ CoreExpr-F.Arrow c.in-Arrow.field-0 c.in-Arrow.field-1 c.in-Arrow.n c.get-in-Arrow.result.now = ap out-CoreExpr c.in-Arrow.is ∙ variant.outs-Arrow c.in-Arrow.field-0 c.in-Arrow.field-1 c.in-Arrow.n c.in-Arrow.a ∙ ap (λ x. CoreExpr-F.Arrow c.in-Arrow.field-0 c.in-Arrow.field-1 c.in-Arrow.n x) (sym c.get-in-Arrow.ensures) in
    let there : IsThere c.in_ok-x-in-Arrow.x.held = search rules in
    let held : c.arrow_of.result ≡ arrow_of c.in-Arrow.n c.in_ok-x-in-Arrow.x.held = search rules in
    λ texts. arm.keep_arm texts c.args.draft.now c.part-in-Arrow.new.draft c.keep-then-is_there.new.draft c.args.e.now c.get-in-Arrow.result.now (single.Arrow c.in-Arrow.n) 1 1 c.args.first (arrow_of c.in-Arrow.n c.in_ok-x-in-Arrow.x.held) c.in_ok-x-in-Arrow.x c.in_ok-w-in-Arrow.w
    (arm.begins_one texts c.args.e.now c.get-in-Arrow.result.now (Waiting.Alone (single.Arrow c.in-Arrow.n)) (λ u ss ws. begins.arrow_begins texts u ss ws c.args.e.now c.get-in-Arrow.result.now c.in-Arrow.field-0 c.in-Arrow.field-1 c.in-Arrow.n is)) (c.in_ok-x-in-Arrow.ensures texts) (λ f z. arm.arrow_same c.in-Arrow.n c.in_ok-x-in-Arrow.x.held f z there) (arm.arrow_free c.in-Arrow.n c.in_ok-x-in-Arrow.x.held) (c.in_ok-w-in-Arrow.ensures.held.0 ∙ held, c.in_ok-w-in-Arrow.ensures.held.1) (c.in_ok-w-in-Arrow.ensures.slid texts)

pub write_expression-returns-in_ok-w-in-Indirection : goal.write_expression-returns-in_ok-w-in-Indirection
write_expression-returns-in_ok-w-in-Indirection t c =
    let is : out-CoreExpr c.args.e.now ≡ CoreExpr-F.Indirection c.in-Indirection.field-0 c.in-Indirection.field-1 c.get-in-Indirection.result.now = ap out-CoreExpr c.in-Indirection.is ∙ variant.outs-Indirection c.in-Indirection.field-0 c.in-Indirection.field-1 c.in-Indirection.a ∙ ap (λ x. CoreExpr-F.Indirection c.in-Indirection.field-0 c.in-Indirection.field-1 x) (sym c.get-in-Indirection.ensures) in
    let there : IsThere c.in_ok-x-in-Indirection.x.held = search rules in
    let held : c.target_of.result ≡ target_of c.in_ok-x-in-Indirection.x.held = search rules in
    λ texts. arm.keep_arm texts c.args.draft.now c.part-in-Indirection.new.draft c.keep-then-is_there-2.new.draft c.args.e.now c.get-in-Indirection.result.now (single.Indirection) 1 1 c.args.first (target_of c.in_ok-x-in-Indirection.x.held) c.in_ok-x-in-Indirection.x c.in_ok-w-in-Indirection.w
    (arm.begins_one texts c.args.e.now c.get-in-Indirection.result.now (Waiting.Alone (single.Indirection)) (λ u ss ws. begins.indirection_begins texts u ss ws c.args.e.now c.get-in-Indirection.result.now c.in-Indirection.field-0 c.in-Indirection.field-1 is)) (c.in_ok-x-in-Indirection.ensures texts) (λ f z. arm.target_same c.in_ok-x-in-Indirection.x.held f z there) (arm.target_free c.in_ok-x-in-Indirection.x.held) (c.in_ok-w-in-Indirection.ensures.held.0 ∙ held, c.in_ok-w-in-Indirection.ensures.held.1) (c.in_ok-w-in-Indirection.ensures.slid texts)

pub write_expression-returns-in_ok-w-in-Cast-2 : goal.write_expression-returns-in_ok-w-in-Cast-2
write_expression-returns-in_ok-w-in-Cast-2 t c =
    let is : out-CoreExpr c.args.e.now ≡ CoreExpr-F.Cast c.in-Cast.field-0 c.in-Cast.t c.get-in-Cast.result.now = ap out-CoreExpr c.in-Cast.is ∙ variant.outs-Cast c.in-Cast.field-0 c.in-Cast.t c.in-Cast.a ∙ ap (λ x. CoreExpr-F.Cast c.in-Cast.field-0 c.in-Cast.t x) (sym c.get-in-Cast.ensures) in
    let value : is_void c.in-Cast.t ≡ false = search rules in
    let same : c.in_ok-t-in-Cast.t ≡ c.in-Cast.t = search rules in
    λ texts. arm.alone_typed texts c.args.draft.now c.part-in-Cast.new.draft c.alone-else-is_void.new.draft c.args.e.now c.get-in-Cast.result.now 1 c.args.first c.in_ok-x-in-Cast.x c.in_ok-w-in-Cast-2.w c.in_ok-t-in-Cast.t c.in-Cast.t same (λ (q : CType). single.Cast q)
    (arm.begins_one texts c.args.e.now c.get-in-Cast.result.now (Waiting.Alone (single.Cast c.in-Cast.t)) (λ u ss ws. begins.cast_begins texts u ss ws c.args.e.now c.get-in-Cast.result.now c.in-Cast.field-0 c.in-Cast.t is)) (c.in_ok-x-in-Cast.ensures texts) (λ f z there. shapes.cast_shaped c.in-Cast.t (answer_of f c.in_ok-x-in-Cast.x.held) z value) c.in_ok-w-in-Cast-2.ensures.there c.in_ok-w-in-Cast-2.ensures.held (c.in_ok-w-in-Cast-2.ensures.pushed texts)

pub write_expression-returns-in_ok-w-in-Convert-2 : goal.write_expression-returns-in_ok-w-in-Convert-2
write_expression-returns-in_ok-w-in-Convert-2 t c =
    let is : out-CoreExpr c.args.e.now ≡ CoreExpr-F.Convert c.in-Convert.field-0 c.in-Convert.t c.get-in-Convert.result.now = ap out-CoreExpr c.in-Convert.is ∙ variant.outs-Convert c.in-Convert.field-0 c.in-Convert.t c.in-Convert.a ∙ ap (λ x. CoreExpr-F.Convert c.in-Convert.field-0 c.in-Convert.t x) (sym c.get-in-Convert.ensures) in
    let read : is_read (type_of c.get-in-Convert.result.now) ≡ false = search rules in
    λ texts. arm.place_arm texts c.args.draft.now c.part-in-Convert.new.draft c.as_it_is.new.draft c.args.e.now c.get-in-Convert.result.now c.in-Convert.field-0 c.args.first c.in-Convert.t c.in_ok-x-in-Convert.x c.in_ok-w-in-Convert-2.w is read (c.in_ok-x-in-Convert.ensures texts) c.in_ok-w-in-Convert-2.ensures.place c.in_ok-w-in-Convert-2.ensures.held (c.in_ok-w-in-Convert-2.ensures.slid texts)
