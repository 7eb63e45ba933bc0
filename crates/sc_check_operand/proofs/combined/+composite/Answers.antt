use Rattle.std.proofs.Common.{◌≡◌, ℕ, ◌+◌, ◌≤◌, ◌<◌, List, ◌++◌, drop, IfOk, sym, ◌∙◌, ap, subst}
use Rattle.sc_types.specs.declared.ctype.CType.{CType}
use Rattle.sc_types.specs.declared.ctype.CType.TheVariants as t
use Rattle.sc_types.specs.declared.ctype.Signature.{Signature}
use Rattle.sc_check_operand.specs.Composite.{composite, joined_parameters, joined_signature}
use Rattle.sc_check_operand.proofs.CompositeTypes.{composite-function, ends, steps, below_left, below_right}
use Rattle.sc_check_operand.proofs.combined.+composite.Goals as goal

pub composite-returns-in_ok-signature-in-Function-b : goal.composite-returns-in_ok-signature-in-Function-b
composite-returns-in_ok-signature-in-Function-b h c =
    let f = c.in-Function.f in
    let g = c.in-Function-b.g in
    let e = ap (λ (x : Signature). t.Function x) c.in_ok-signature-in-Function-b.ensures
    ∙ ap (λ (x : Signature). t.Function (joined_signature x c.get-in-Function-b-2.result.now)) c.get-in-Function-b.ensures
    ∙ ap (λ (x : Signature). t.Function (joined_signature f x)) c.get-in-Function-b-2.ensures
    ∙ sym (composite-function f g)
    ∙ ap (λ (x : CType). composite x (t.Function g)) (sym c.in-Function.is)
    ∙ ap (λ (x : CType). composite c.args.a.now x) (sym c.in-Function-b.is) in
    let P : CType → Type 0 = λ v. IfOk c.function_of.result (λ r. r ≡ v) in
    subst P e c.function_of.ensures

pub parameters-returns : goal.parameters-returns
parameters-returns h c =
    let P : ℕ → Type 0 = λ m. m ≤ c.loop-i.i in
    ends c.loop-i.joined c.args.ps.now c.args.qs.now c.loop-i.i (subst P c.min-n.ensures c.loop-i-test.false) c.loop-i.invariant

pub parameters-loop-i-preserved : goal.parameters-loop-i-preserved
parameters-loop-i-preserved h c =
    let ps = c.args.ps.now in
    let qs = c.args.qs.now in
    let i = c.loop-i.i in
    let below : i < c.min-n.result = c.loop-i-test.true in
    let P : ℕ → Type 0 = λ m. i < m in
    let least = subst P c.min-n.ensures below in
    ap (λ (xs : List CType). xs ++ joined_parameters (drop (i + 1) ps) (drop (i + 1) qs)) c.in_ok-push.ensures.ok
    ∙ steps c.loop-i.joined ps qs i c.index-ps-i.result c.index-qs-i.result c.in_ok-param.param (below_left ps qs i least) (below_right ps qs i least) c.index-ps-i.is c.index-qs-i.is c.in_ok-param.ensures c.loop-i.invariant
