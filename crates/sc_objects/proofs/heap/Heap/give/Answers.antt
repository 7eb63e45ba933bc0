use Rattle.std.proofs.Common.{◌≡◌, subst, arith, sym, ◌∙◌, ap, Some}
use Rattle.std.specs.List.{slice_get}
use Rattle.std.proofs.lemmas.List.{length-map}
use Rattle.sc_objects.specs.Blocks.{Blocks, IsTiled, class_at, given}
use Rattle.sc_objects.proofs.Changes.{slot-at, kept-given, given-view, room-for-one, given-keeps}
use Rattle.sc_objects.proofs.heap.Heap.give.Goals as goal

pub index_mut-requires : goal.index_mut-requires
index_mut-requires c =
    let known = c.self.invariant.tiled.taken_within c.args.base c.in-Some.k (sym c.in-Some.ensures.value) in
    let count = c.self.invariant.tiled.classes in
    let same = length-map c.self.inside.free.items (λ v. v.items) in
    omega arith

pub push_reserved-requires : goal.push_reserved-requires
push_reserved-requires c =
    let free = c.self.inside.free.items in
    let at : slice_get free c.in-Some.k ≡ Some c.index_mut.result.now = slot-at c.self.inside.bytes c.self.inside.used c.self.inside.taken free c.in-Some.k c.index_mut.result.now c.self.invariant (c.self.invariant.tiled.taken_within c.args.base c.in-Some.k (sym c.in-Some.ensures.value)).0 c.index_mut.ensures.value in
    let room = room-for-one c.self.inside.bytes c.self.inside.used c.self.inside.taken free c.args.base c.in-Some.k c.index_mut.result.now c.self.invariant (sym c.in-Some.ensures.value) at in
    omega arith

pub invariant_of-self : goal.invariant_of-self
invariant_of-self c =
    let free = c.self.inside.free.items in
    let at : slice_get free c.in-Some.k ≡ Some c.index_mut.result.now = slot-at c.self.inside.bytes c.self.inside.used c.self.inside.taken free c.in-Some.k c.index_mut.result.now c.self.invariant (c.self.invariant.tiled.taken_within c.args.base c.in-Some.k (sym c.in-Some.ensures.value)).0 c.index_mut.ensures.value in
    kept-given c.self.inside.bytes c.self.inside.used c.self.inside.taken c.remove.new.self free c.args.base c.in-Some.k c.index_mut.result.now c.push_reserved.new.self c.self.invariant (sym c.in-Some.ensures.value) c.remove.ensures.updates c.remove.ensures.entries at c.push_reserved.ensures.items c.push_reserved.ensures.capacity

pub returns-in-Some-clause-given : goal.returns-in-Some-clause-given
returns-in-Some-clause-given c =
    let free = c.self.inside.free.items in
    let at : slice_get free c.in-Some.k ≡ Some c.index_mut.result.now = slot-at c.self.inside.bytes c.self.inside.used c.self.inside.taken free c.in-Some.k c.index_mut.result.now c.self.invariant (c.self.invariant.tiled.taken_within c.args.base c.in-Some.k (sym c.in-Some.ensures.value)).0 c.index_mut.ensures.value in
    let view = given-view c.self.inside.bytes c.self.inside.used c.self.inside.taken c.remove.new.self free c.args.base c.in-Some.k c.index_mut.result.now c.push_reserved.new.self c.remove.ensures.entries at c.push_reserved.ensures.items in
    (c.in-Some.k, ap (λ (b : Blocks). class_at b c.args.base) (sym c.self.view_is) ∙ sym c.in-Some.ensures.value, view ∙ ap (λ (b : Blocks). given b c.args.base c.in-Some.k) c.self.view_is)

pub returns-in-Some-clause-tiled : goal.returns-in-Some-clause-tiled
returns-in-Some-clause-tiled c =
    let free = c.self.inside.free.items in
    let at : slice_get free c.in-Some.k ≡ Some c.index_mut.result.now = slot-at c.self.inside.bytes c.self.inside.used c.self.inside.taken free c.in-Some.k c.index_mut.result.now c.self.invariant (c.self.invariant.tiled.taken_within c.args.base c.in-Some.k (sym c.in-Some.ensures.value)).0 c.index_mut.ensures.value in
    let kept = kept-given c.self.inside.bytes c.self.inside.used c.self.inside.taken c.remove.new.self free c.args.base c.in-Some.k c.index_mut.result.now c.push_reserved.new.self c.self.invariant (sym c.in-Some.ensures.value) c.remove.ensures.updates c.remove.ensures.entries at c.push_reserved.ensures.items c.push_reserved.ensures.capacity in
    (subst IsTiled c.self.view_is c.self.invariant.tiled, kept.tiled)

pub returns-in-Some-clause-keeps : goal.returns-in-Some-clause-keeps
returns-in-Some-clause-keeps c = λ q j n there. given-keeps c.self.inside.taken c.remove.new.self c.args.base c.remove.ensures.updates q j n (ap (λ (b : Blocks). class_at b q) c.self.view_is ∙ there)
