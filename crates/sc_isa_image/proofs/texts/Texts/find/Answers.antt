use Rattle.std.proofs.Common.{◌≡◌, ◌-◌, sym, Some, arith}
use Rattle.std.specs.List.{slice_get}
use Rattle.sc_isa_image.proofs.Order.{found-at, get-index, none-found, past-fails, within-holds}
use Rattle.sc_isa_image.proofs.texts.Texts.find.Goals as goal

pub returns-then-i-eq0-clause-text : goal.returns-then-i-eq0-clause-text
returns-then-i-eq0-clause-text c =
    let s = c.self.inside.texts.items in
    let above = rw c.as_slice.ensures.value at c.rank-i.ensures.above in
    rw (← c.self.view_is) (sym (none-found s c.args.pc (λ k u at. above k u at (omega arith))))

pub overflow_sub-pc : goal.overflow_sub-pc
overflow_sub-pc c =
    let s = c.self.inside.texts.items in
    let i = c.rank-i.result - 1 in
    let x = c.index-text.result.now in
    let bound = rw c.as_slice.ensures.value at c.rank-i.ensures.bound in
    let at : slice_get s i ≡ Some x = get-index s i x c.index-text.ensures (omega arith) in
    (rw c.as_slice.ensures.value at c.rank-i.ensures.below) i x at (omega arith)

pub returns-then-pc-text-clause-text : goal.returns-then-pc-text-clause-text
returns-then-pc-text-clause-text c =
    let s = c.self.inside.texts.items in
    let i = c.rank-i.result - 1 in
    let x = c.index-text.result.now in
    let bound = rw c.as_slice.ensures.value at c.rank-i.ensures.bound in
    let at : slice_get s i ≡ Some x = get-index s i x c.index-text.ensures (omega arith) in
    let low = (rw c.as_slice.ensures.value at c.rank-i.ensures.below) i x at (omega arith) in
    let above = rw c.as_slice.ensures.value at c.rank-i.ensures.above in
    let found = found-at s i x c.args.pc c.self.invariant at low (λ k u there more. above k u there (omega arith)) in
    let out = past-fails c.args.pc x low (omega arith) in
    rw (← c.self.view_is) (sym (rw out at found))

pub returns-clause-text : goal.returns-clause-text
returns-clause-text c =
    let s = c.self.inside.texts.items in
    let i = c.rank-i.result - 1 in
    let x = c.index-text.result.now in
    let bound = rw c.as_slice.ensures.value at c.rank-i.ensures.bound in
    let at : slice_get s i ≡ Some x = get-index s i x c.index-text.ensures (omega arith) in
    let low = (rw c.as_slice.ensures.value at c.rank-i.ensures.below) i x at (omega arith) in
    let above = rw c.as_slice.ensures.value at c.rank-i.ensures.above in
    let found = found-at s i x c.args.pc c.self.invariant at low (λ k u there more. above k u there (omega arith)) in
    let inside = within-holds c.args.pc x low (omega arith) in
    rw (← c.self.view_is) (sym (rw inside at found))

pub returns-clause-held : goal.returns-clause-held
returns-clause-held c =
    let s = c.self.inside.texts.items in
    let i = c.rank-i.result - 1 in
    let x = c.index-text.result.now in
    let bound = rw c.as_slice.ensures.value at c.rank-i.ensures.bound in
    let at : slice_get s i ≡ Some x = get-index s i x c.index-text.ensures (omega arith) in
    (rw c.as_slice.ensures.value at c.rank-i.ensures.below) i x at (omega arith)
