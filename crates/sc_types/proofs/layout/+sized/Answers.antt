use Rattle.std.proofs.Common.{◌≡◌, Option, None, sym, subst}
use Rattle.sc_types.specs.declared.ctype.CType.{CType}
use Rattle.sc_types.specs.declared.layout.Layout.{Layout}
use Rattle.sc_types.specs.Layouts.{layout_in}
use Rattle.sc_types.specs.Tables.{within}
use Rattle.sc_types.proofs.Sizes.{within_repeated, layout_in_array}
use Rattle.sc_types.proofs.layout.+sized.Goals as goal

-- an array of elements that are too large
pub returns-in-None-clause-same : goal.returns-in-None-clause-same
returns-in-None-clause-same t c =
    let structs = c.args.s.now in
    let e = c.in-Array.element in
    let none : None ≡ within (layout_in structs e) = rw c.get.ensures at c.in-None.ensures.same in
    subst (λ (u : CType). None ≡ within (layout_in structs u)) (sym c.in-Array.is)
    (subst (λ (o : Option Layout). None ≡ within o) (sym (layout_in_array structs e c.in-Array.length)) (within_repeated c.in-Array.length (layout_in structs e) none))
