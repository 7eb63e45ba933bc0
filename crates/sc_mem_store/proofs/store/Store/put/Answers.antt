use Rattle.std.proofs.Common.{◌≡◌, ap, [], ◌∷◌, length, refl, Some, arith}
use Rattle.std.specs.List.{slice_get}
use Rattle.std.proofs.lemmas.Option.{slice_get_read}
use Rattle.sc_meaning.specs.World.{object_at, written}
use Rattle.sc_mem_store.specs.Kept.{Kept}
use Rattle.sc_mem_store.proofs.Writing.{put_step}
use Rattle.sc_mem_store.proofs.Memories.{put_turn}
use Rattle.sc_mem_store.proofs.store.Store.put.Goals as goal

pub loop-cell-preserved : goal.loop-cell-preserved
loop-cell-preserved c =
    let i = c.loop-cell.cell-index in
    let kept = c.loop-cell.invariant in
    let cells = c.args.cells.now in
    let further = c.in-Some.ensures.1 in
    let place = kept.1 in
    let test = c.loop-cell-test.true in
    let first = c.args.self.now in
    let now = c.loop-cell.self in
    let new = c.put_byte.new.self in
    let put = c.in_ok-put_byte.ensures.put in
    let there : slice_get cells i ≡ Some c.cell-item.result = slice_get_read cells (length cells) i c.cell-item.result refl (omega arith) c.cell-item.is in
    let memory = put_turn first now new (written now.objects c.args.id c.loop-cell.next (c.cell-item.result ∷ []) (object_at now.objects c.args.id)) c.args.id c.args.at c.loop-cell.next i cells c.cell-item.result kept.4 kept.2 kept.3 kept.1 there c.in_ok-put_byte.ensures.reach put in
    (put_step first.objects now.objects new.objects c.args.id c.args.at c.loop-cell.next i cells c.cell-item.result kept.0 kept.1 there c.in_ok-put_byte.ensures.inside (ap (λ (k : Kept). k.objects) put), omega arith, memory.0, memory.1, kept.4)
