use Rattle.std.proofs.Common.{◌≡◌, List, [], ◌∷◌, refl, sym, subst}
use Rattle.sc_base.specs.declared.key.Key.{Key}
use Rattle.sc_base.specs.declared.memory.Cell.{Cell as Stored}
use Rattle.sc_mem.specs.Flat.{Flat}
use Rattle.sc_meaning.specs.World.{object_at, written}
use Rattle.sc_meaning.specs.Beside.{cell_kept_in}
use Rattle.sc_mem_store.specs.Holding.{Holds, meant}
use Rattle.sc_mem_store.specs.Kept.{Kept}
use Rattle.sc_mem_store.specs.Living.{IsByteOf}
use Rattle.sc_mem_store.specs.Puts.{IsPutInto}
use Rattle.sc_mem_store.proofs.Living.{holds_cell_inside, live_at}
use Rattle.sc_mem_store.proofs.Memories.{cell_kept, kept_is}
use Rattle.sc_mem_store.proofs.store.Store.put_inside.Goals as goal

pub invariant_of-self : goal.invariant_of-self
invariant_of-self c =
    let s = c.self.inside in
    subst (λ (m : Flat). Holds s.history.objects m s.functions) (sym c.in_err-put_cell.ensures.cell) c.self.invariant

pub invariant_of-self-2 : goal.invariant_of-self-2
invariant_of-self-2 c =
    let s = c.self.inside in
    let m = s.memory.flat in
    let p = c.args.place in
    let at = c.args.at in
    let x = c.in-Some.stored in
    let byte = c.in_ok-byte.byte in
    let put = c.in_ok-put_cell.ensures.cell in
    let place = subst (λ (k : Kept). IsByteOf k.memory.flat.objects p.id p.offset at) (sym c.self.view_is) c.requires in
    let means = subst (λ (fs : List Key). byte ≡ meant fs m.objects x) c.as_slice.ensures c.in_ok-byte.ensures in
    rw (c.after-self-inside.ensures, c.of.ensures)
    (holds_cell_inside s.history.objects s.memory c.put_cell.new.memory.flat s.functions p.id p.offset at x byte c.put_cell.ensures.safe c.self.invariant
    place put.0 put.1 means c.in-Some.ensures.1)

pub returns : goal.returns
returns c =
    let s = c.self.inside in
    let m = s.memory.flat in
    let p = c.args.place in
    let at = c.args.at in
    let x = c.in-Some.stored in
    let byte = c.in_ok-byte.byte in
    let put = c.in_ok-put_cell.ensures.cell in
    let place = subst (λ (k : Kept). IsByteOf k.memory.flat.objects p.id p.offset at) (sym c.self.view_is) c.requires in
    let means = subst (λ (fs : List Key). byte ≡ meant fs m.objects x) c.as_slice.ensures c.in_ok-byte.ensures in
    let memory = cell_kept s.memory c.put_cell.new.memory at x put.1 c.in_ok-put_cell.ensures.blocks in
    let new : Kept = record { objects = c.after-self-inside.result.objects; memory = c.put_cell.new.memory; functions = s.functions } in
    subst (λ (y : Stored). IsPutInto p.id p.offset byte at y c.args.self.now new) c.in-Some.ensures.0
    (subst (λ (k : Kept). IsPutInto p.id p.offset byte at x k new) c.self.view_is (
      place,
      live_at s.history.objects m s.functions p.id p.offset at c.self.invariant place,
      means,
      kept_is new (record { objects = written s.history.objects p.id p.offset (byte ∷ []) (object_at s.history.objects p.id); memory = cell_kept_in at x s.memory; functions = s.functions }) (rw c.of.ensures at c.after-self-inside.ensures) memory refl,
    ))
