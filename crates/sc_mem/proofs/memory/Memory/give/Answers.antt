use Rattle.std.proofs.Common.{◌≢◌, ◌-◌, inl, inr, sym, ap, subst, arith}
use Rattle.sc_objects.specs.Blocks.{Blocks}
use Rattle.sc_objects.proofs.Tiles.{size_above}
use Rattle.sc_mem.specs.Safe.{Store, IsBare}
use Rattle.sc_mem.proofs.Kept.{safe-blocks}
use Rattle.sc_mem.proofs.memory.Memory.give.Goals as goal

pub invariant_of-self : goal.invariant_of-self
invariant_of-self c =
    let s = c.self.inside in
    let bare = subst (λ (v : Store). IsBare v c.args.base) (sym c.self.view_is) c.requires.bare in
    let g = c.give.ensures.given in
    safe-blocks s.heap_bytes s.stack s.cells s.objects s.heap c.give.new.self c.self.invariant c.give.ensures.tiled.1
    (ap (λ (b : Blocks). b.bytes) g.2)
    (λ id o k h kind low there.
    let apart : o.base - 0x10000000 ≢ c.args.base - 0x10000000 = λ e. (let some = size_above g.0 in elim (bare g.0 id o g.1 h) [ inl l ↦ omega arith | inr l ↦ omega arith ]) in
    c.give.ensures.keeps (o.base - 0x10000000) k apart there)
