use Rattle.std.proofs.Common.{◌≡◌, ◌-◌, sym, subst, Some, arith}
use Rattle.std.specs.Prelude.{IsSome}
use Rattle.std.specs.List.{slice_get}
use Rattle.sc_isa_image.specs.Texts.{Table, text_word}
use Rattle.sc_isa_image.proofs.Order.{get-index, is-some, ordered-set, place-set, some-first, text_word-set, word-at}
use Rattle.sc_isa_image.proofs.texts.Texts.set_word.Goals as goal

pub overflow_sub-i : goal.overflow_sub-i
overflow_sub-i c =
    let s = c.self.inside.texts.items in
    let there = is-some (text_word s c.args.pc) (subst (λ (v : Table). IsSome (text_word v.texts c.args.pc)) (sym c.self.view_is) c.requires) in
    some-first s c.rank-i.result c.args.pc there.0 (rw c.as_slice.ensures.value at c.rank-i.ensures.above) there.1

pub set_word_of-requires : goal.set_word_of-requires
set_word_of-requires c =
    let s = c.self.inside.texts.items in
    let i = c.rank-i.result - 1 in
    let x = c.index_mut.result.now in
    let there = is-some (text_word s c.args.pc) (subst (λ (v : Table). IsSome (text_word v.texts c.args.pc)) (sym c.self.view_is) c.requires) in
    let above = rw c.as_slice.ensures.value at c.rank-i.ensures.above in
    let first = some-first s c.rank-i.result c.args.pc there.0 above there.1 in
    let bound = rw c.as_slice.ensures.value at c.rank-i.ensures.bound in
    let at : slice_get s i ≡ Some x = get-index s i x c.index_mut.ensures.value (omega arith) in
    let low = (rw c.as_slice.ensures.value at c.rank-i.ensures.below) i x at (omega arith) in
    let has = word-at s i x c.args.pc there.0 c.self.invariant at low (λ k u here more. above k u here (omega arith)) there.1 in
    record { start = has.start; within = has.within }

pub invariant_of-self : goal.invariant_of-self
invariant_of-self c =
    let s = c.self.inside.texts.items in
    let i = c.rank-i.result - 1 in
    let x = c.index_mut.result.now in
    let there = is-some (text_word s c.args.pc) (subst (λ (v : Table). IsSome (text_word v.texts c.args.pc)) (sym c.self.view_is) c.requires) in
    let first = some-first s c.rank-i.result c.args.pc there.0 (rw c.as_slice.ensures.value at c.rank-i.ensures.above) there.1 in
    let bound = rw c.as_slice.ensures.value at c.rank-i.ensures.bound in
    let at : slice_get s i ≡ Some x = get-index s i x c.index_mut.ensures.value (omega arith) in
    rw c.set_word_of.ensures (ordered-set s i x c.args.pc c.args.word c.self.invariant at)

pub returns-clause-words : goal.returns-clause-words
returns-clause-words c = λ q.
    let s = c.self.inside.texts.items in
    let i = c.rank-i.result - 1 in
    let x = c.index_mut.result.now in
    let there = is-some (text_word s c.args.pc) (subst (λ (v : Table). IsSome (text_word v.texts c.args.pc)) (sym c.self.view_is) c.requires) in
    let above = rw c.as_slice.ensures.value at c.rank-i.ensures.above in
    let first = some-first s c.rank-i.result c.args.pc there.0 above there.1 in
    let bound = rw c.as_slice.ensures.value at c.rank-i.ensures.bound in
    let at : slice_get s i ≡ Some x = get-index s i x c.index_mut.ensures.value (omega arith) in
    let low = (rw c.as_slice.ensures.value at c.rank-i.ensures.below) i x at (omega arith) in
    let has = word-at s i x c.args.pc there.0 c.self.invariant at low (λ k u here more. above k u here (omega arith)) there.1 in
    rw (c.set_word_of.ensures, ← c.self.view_is) (text_word-set s i x c.args.pc c.args.word q c.self.invariant at has)

pub returns-clause-texts : goal.returns-clause-texts
returns-clause-texts c = λ q.
    let s = c.self.inside.texts.items in
    let i = c.rank-i.result - 1 in
    let x = c.index_mut.result.now in
    let there = is-some (text_word s c.args.pc) (subst (λ (v : Table). IsSome (text_word v.texts c.args.pc)) (sym c.self.view_is) c.requires) in
    let first = some-first s c.rank-i.result c.args.pc there.0 (rw c.as_slice.ensures.value at c.rank-i.ensures.above) there.1 in
    let bound = rw c.as_slice.ensures.value at c.rank-i.ensures.bound in
    let at : slice_get s i ≡ Some x = get-index s i x c.index_mut.ensures.value (omega arith) in
    rw (c.set_word_of.ensures, ← c.self.view_is) (place-set s i x c.args.pc c.args.word q c.self.invariant at)
