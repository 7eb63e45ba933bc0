use Rattle.std.proofs.Common.{sym, subst, arith}
use Rattle.sc_isa_image.specs.Texts.{IsFree, Table, end_of}
use Rattle.sc_isa_image.proofs.Order.{clear-free, holding-insert, ordered-insert}
use Rattle.sc_isa_image.proofs.texts.Texts.put.Goals as goal

pub invariant_of-self : goal.invariant_of-self
invariant_of-self c =
    let s = c.self.inside.texts in
    let t = c.args.t in
    let free = clear-free s.items t.at.start (end_of t) c.self.invariant (let some = c.requires.some in omega arith) (subst (λ (v : Table). IsFree v.texts t.at.start (end_of t)) (sym c.self.view_is) c.requires.free) in
    let slice = c.as_slice.ensures.value in
    rw c.insert_text.ensures.items (ordered-insert s.items c.rank-i.result t (rw slice at c.rank-i.ensures.bound) c.self.invariant c.requires.some free (rw slice at c.rank-i.ensures.below) (rw slice at c.rank-i.ensures.above))

pub returns-clause-texts : goal.returns-clause-texts
returns-clause-texts c = λ pc.
    let s = c.self.inside.texts in
    let t = c.args.t in
    let free = clear-free s.items t.at.start (end_of t) c.self.invariant (let some = c.requires.some in omega arith) (subst (λ (v : Table). IsFree v.texts t.at.start (end_of t)) (sym c.self.view_is) c.requires.free) in
    rw (c.insert_text.ensures.items, ← c.self.view_is) (holding-insert s.items c.rank-i.result t pc free)
