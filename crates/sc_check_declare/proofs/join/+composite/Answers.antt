use Rattle.std.proofs.Common.{sym, ◌∙◌, ap}
use Rattle.sc_types.specs.declared.ctype.CType.{CType}
use Rattle.sc_types.specs.declared.ctype.CType.TheVariants as t
use Rattle.sc_types.specs.declared.ctype.Signature.{Signature}
use Rattle.sc_check_declare.specs.Composites.{composite, signature}
use Rattle.sc_check_declare.proofs.Joining.{composite-function, still_ok, parameters-end}
use Rattle.sc_check_declare.proofs.join.+composite.Goals as goal

pub composite-returns-in_ok-signatures-in-Function-b : goal.composite-returns-in_ok-signatures-in-Function-b
composite-returns-in_ok-signatures-in-Function-b t' c =
    let f = c.in-Function.f in
    let g = c.in-Function-b.g in
    still_ok c.function.result (t.Function c.in_ok-signatures-in-Function-b.field-0) (composite c.args.a.now c.args.b.now) c.function.ensures
    (ap (λ (s : Signature). t.Function s) (
    c.in_ok-signatures-in-Function-b.ensures
    ∙ ap (λ (x : Signature). signature x c.get-in-Function-b-2.result.now) c.get-in-Function-b.ensures
    ∙ ap (λ (x : Signature). signature f x) c.get-in-Function-b-2.ensures)
    ∙ sym (composite-function f g)
    ∙ ap (λ (x : CType). composite x (t.Function g)) (sym c.in-Function.is)
    ∙ ap (λ (x : CType). composite c.args.a.now x) (sym c.in-Function-b.is))

pub parameters-returns : goal.parameters-returns
parameters-returns t' c = parameters-end c.loop-i.all _ c.args.ps.now c.args.qs.now c.loop-i.i c.loop-i-test.false c.loop-i.invariant
