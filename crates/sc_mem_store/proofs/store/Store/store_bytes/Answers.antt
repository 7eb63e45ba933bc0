-- One byte more is written.
use Rattle.std.proofs.Common.{rules, ap, [], ◌∷◌, ◌<◌, ◌≤◌, arith}
use Rattle.sc_meaning.specs.World.{object_at, written}
use Rattle.sc_mem_store.specs.Kept.{Kept}
use Rattle.sc_mem_store.proofs.Writing.{store_step}
use Rattle.sc_mem_store.proofs.Memories.{store_turn}
use Rattle.sc_mem_store.proofs.store.Store.store_bytes.Goals as goal

pub loop-k-preserved : goal.loop-k-preserved
loop-k-preserved c =
    let kept = c.loop-k.invariant in
    let further = c.in-Some.ensures.1 in
    let place = kept.1 in
    let below : c.loop-k.k < c.args.n = search rules in
    let few : c.args.n ≤ 4 = search rules in
    let first = c.args.self.now in
    let now = c.loop-k.self in
    let new = c.put_byte.new.self in
    let put = c.in_ok-put_byte.ensures.put in
    let memory = store_turn first now new (written now.objects c.args.id c.loop-k.next (c.in_ok-cell.cell ∷ []) (object_at now.objects c.args.id)) c.args.id c.args.at c.loop-k.next c.loop-k.k c.args.n c.args.v.now c.in_ok-cell.cell kept.4 kept.2 kept.3 kept.1 below few c.in_ok-cell.ensures c.in_ok-put_byte.ensures.reach put in
    (store_step first.objects now.objects new.objects c.args.id c.args.at c.loop-k.next c.loop-k.k c.args.n c.args.v.now c.in_ok-cell.cell kept.0 kept.1 below few c.in_ok-cell.ensures c.in_ok-put_byte.ensures.inside (ap (λ (k : Kept). k.objects) put), omega arith, memory.0, memory.1, kept.4)
