use Rattle.std.proofs.Common.{◌≡◌, List, ap, subst}
use Rattle.sc_mem_store.specs.Kept.{Kept}
use Rattle.std.specs.Prelude.{IfOk}
use Rattle.sc_meaning.specs.World.{Object, cells_at}
use Rattle.sc_mem_store.proofs.Reading.{read_result}
use Rattle.sc_mem_store.proofs.store.Store.cells.Goals as goal

pub returns : goal.returns
returns c =
    let s = c.self.inside in
    let span = c.in_ok-span.span in
    subst (λ (os : List Object). IfOk c.bytes_at.result (λ cells. cells ≡ cells_at os c.args.id c.args.at c.args.n)) (ap (λ (k : Kept). k.objects) c.self.view_is)
    (read_result s.history.objects s.memory.flat s.functions c.as_slice.result.now c.args.id c.args.at c.args.n span.base span.count c.bytes_at.result
    c.self.invariant c.in_ok-span.ensures c.as_slice.ensures c.bytes_at.ensures)
