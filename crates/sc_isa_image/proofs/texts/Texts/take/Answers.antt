use Rattle.std.proofs.Common.{◌-◌, sym, subst}
use Rattle.std.specs.Prelude.{IsTrue}
use Rattle.sc_isa_image.specs.Texts.{Table, place_of, starts_at, text_holding}
use Rattle.sc_isa_image.proofs.Order.{holding-taken, ordered-remove, starts-first, starts-found}
use Rattle.sc_isa_image.proofs.texts.Texts.take.Goals as goal

pub overflow_sub-i : goal.overflow_sub-i
overflow_sub-i c =
    let s = c.self.inside.texts in
    let start = starts-found s.items c.args.start c.args.start (subst (λ (v : Table). IsTrue (starts_at c.args.start (place_of (text_holding v.texts c.args.start)))) (sym c.self.view_is) c.requires) in
    starts-first s.items c.rank-i.result c.args.start start (rw c.as_slice.ensures.value at c.rank-i.ensures.above)

pub invariant_of-self : goal.invariant_of-self
invariant_of-self c = rw c.remove.ensures.items (ordered-remove c.self.inside.texts.items (c.rank-i.result - 1) c.self.invariant)

pub returns-clause-texts : goal.returns-clause-texts
returns-clause-texts c = λ pc.
    let s = c.self.inside.texts in
    let start = starts-found s.items c.args.start c.args.start (subst (λ (v : Table). IsTrue (starts_at c.args.start (place_of (text_holding v.texts c.args.start)))) (sym c.self.view_is) c.requires) in
    let slice = c.as_slice.ensures.value in
    rw (c.remove.ensures.items, ← c.self.view_is) (holding-taken s.items c.rank-i.result c.args.start pc c.self.invariant start (rw slice at c.rank-i.ensures.below) (rw slice at c.rank-i.ensures.above) (rw slice at c.rank-i.ensures.bound))
