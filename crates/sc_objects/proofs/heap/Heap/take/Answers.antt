use Rattle.std.proofs.Common.{◌≡◌, Some, subst, ap, ◌∙◌}
use Rattle.std.specs.List.{slice_get}
use Rattle.sc_objects.specs.Blocks.{Blocks, IsTiled, class_at}
use Rattle.sc_objects.proofs.Changes.{slot-at, kept-moves, takes, moved-found, moved-class, moved-keeps}
use Rattle.sc_objects.proofs.heap.Heap.take.Goals as goal

pub invariant_of-self : goal.invariant_of-self
invariant_of-self c =
    let s = c.self.inside in
    let k = c.class_of-k.result in
    let v = c.index_mut-free.result.now in
    let at : slice_get s.free.items k ≡ Some v = slot-at s.bytes s.used s.taken s.free.items k v c.self.invariant c.class_of-k.ensures.bound c.index_mut-free.ensures.value in
    kept-moves s.bytes k s.used c.take_block.new.used v c.take_block.new.free s.taken c.take_block.new.taken s.free.items c.take_block.result c.self.invariant c.class_of-k.ensures.bound at c.take_block.ensures

pub returns-clause-taken : goal.returns-clause-taken
returns-clause-taken c =
    let s = c.self.inside in
    let k = c.class_of-k.result in
    let v = c.index_mut-free.result.now in
    let at : slice_get s.free.items k ≡ Some v = slot-at s.bytes s.used s.taken s.free.items k v c.self.invariant c.class_of-k.ensures.bound c.index_mut-free.ensures.value in
    takes s.bytes k c.args.n s.used c.take_block.new.used v c.take_block.new.free s.taken c.take_block.new.taken s.free.items c.args.self.now c.take_block.result c.self.view_is c.class_of-k.ensures.class at c.take_block.ensures

pub returns-clause-tiled : goal.returns-clause-tiled
returns-clause-tiled c =
    let s = c.self.inside in
    let k = c.class_of-k.result in
    let v = c.index_mut-free.result.now in
    let at : slice_get s.free.items k ≡ Some v = slot-at s.bytes s.used s.taken s.free.items k v c.self.invariant c.class_of-k.ensures.bound c.index_mut-free.ensures.value in
    (subst IsTiled c.self.view_is c.self.invariant.tiled, (kept-moves s.bytes k s.used c.take_block.new.used v c.take_block.new.free s.taken c.take_block.new.taken s.free.items c.take_block.result c.self.invariant c.class_of-k.ensures.bound at c.take_block.ensures).tiled)

pub returns-clause-found : goal.returns-clause-found
returns-clause-found c =
    let s = c.self.inside in
    moved-found s.bytes c.class_of-k.result s.used c.take_block.new.used c.index_mut-free.result.now c.take_block.new.free s.taken c.take_block.new.taken c.take_block.result c.take_block.ensures

pub returns-clause-keeps : goal.returns-clause-keeps
returns-clause-keeps c =
    let s = c.self.inside in
    let k = c.class_of-k.result in
    let v = c.index_mut-free.result.now in
    let at : slice_get s.free.items k ≡ Some v = slot-at s.bytes s.used s.taken s.free.items k v c.self.invariant c.class_of-k.ensures.bound c.index_mut-free.ensures.value in
    let keeps = moved-keeps s.bytes k s.used c.take_block.new.used v c.take_block.new.free s.taken c.take_block.new.taken s.free.items c.take_block.result c.self.invariant at c.take_block.ensures in
    λ q j there. keeps q j (ap (λ (b : Blocks). class_at b q) c.self.view_is ∙ there)

pub returns-clause-class : goal.returns-clause-class
returns-clause-class c =
    let s = c.self.inside in
    moved-class s.bytes c.class_of-k.result c.args.n s.used c.take_block.new.used c.index_mut-free.result.now c.take_block.new.free s.taken c.take_block.new.taken c.take_block.result c.class_of-k.ensures.class c.take_block.ensures
