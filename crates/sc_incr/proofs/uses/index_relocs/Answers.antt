use Rattle.std.proofs.Common.{◌++◌, ◌∙◌, ◌∷◌, [], ap, cond, rules, sym}
use Rattle.sc_incr.specs.Uses.{names}
use Rattle.sc_incr.proofs.Elements.{some-at}
use Rattle.sc_incr.proofs.Relocating.{positions-next}
use Rattle.sc_incr.proofs.uses.index_relocs.Goals as goal

pub loop-at-preserved : goal.loop-at-preserved
loop-at-preserved c = λ q.
    let xs = c.args.relocs.now in
    let e = some-at xs c.loop-at.at (search rules) in
    c.in_ok-add_reloc_at.ensures q e.0 e.1
    ∙ (ap (λ ys. ys ++ cond (names c.args.home.now c.args.object.now q e.0) (c.loop-at.at ∷ []) []) (c.loop-at.invariant q)
    ∙ sym (positions-next c.args.home.now c.args.object.now q xs c.loop-at.at e.0 e.1))
