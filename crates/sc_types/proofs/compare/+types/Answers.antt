use Rattle.std.proofs.Common.{sym, ◌∙◌, ap}
use Rattle.sc_types.specs.declared.ctype.CType.{CType}
use Rattle.sc_types.specs.declared.ctype.CType.TheVariants as t
use Rattle.sc_types.specs.declared.ctype.Signature.{Signature}
use Rattle.sc_types.specs.Compatibility.{sides, alike, same_signature}
use Rattle.sc_types.proofs.Compatibility.{parameters-length, alike-function}
use Rattle.sc_types.proofs.compare.+types.Goals as goal

pub parameters-returns-then-ps-qs : goal.parameters-returns-then-ps-qs
parameters-returns-then-ps-qs t c = parameters-length (sides c.args.one_module c.args.s.now c.args.t.now) c.args.ps.now c.args.qs.now c.if-ps-qs.true

pub types-returns-in-Function-b : goal.types-returns-in-Function-b
types-returns-in-Function-b h c =
    let behind = sides c.args.one_module c.args.s.now c.args.t.now in
    let f = c.in-Function.f in
    let g = c.in-Function-b.g in
    c.signatures.ensures
    ∙ ap (λ (x : Signature). same_signature behind x c.get-in-Function-b-2.result.now) c.get-in-Function-b.ensures
    ∙ ap (λ (x : Signature). same_signature behind f x) c.get-in-Function-b-2.ensures
    ∙ sym (alike-function behind behind c.args.own f g)
    ∙ ap (λ (x : CType). alike behind behind c.args.own x (t.Function g)) (sym c.in-Function.is)
    ∙ ap (λ (x : CType). alike behind behind c.args.own c.args.a.now x) (sym c.in-Function-b.is)
