use Rattle.std.proofs.Common.{◌+◌, List, subst, sym, arith}
use Rattle.sc_cells.specs.Pages.{Rewritten, Sheet}
use Rattle.sc_cells.specs.Range.{range_of}
use Rattle.sc_cells.proofs.Paged.{are-taken, upward-copy}
use Rattle.sc_cells.proofs.pages.copy_upward.Goals as goal

pub copying-preserved : goal.copying-preserved
copying-preserved c =
    let first = c.args.pages.now.items in
    let k = c.copying.k in
    subst (λ (ps : List Sheet). Rewritten first ps (c.args.from + c.args.n) c.args.to (λ all. range_of all c.args.from (k + 1))) (sym c.put_at.ensures)
    (upward-copy first c.copying.pages.items c.args.to c.args.from c.args.n k c.cell_at-c.result c.requires.inside (are-taken c.args.pages.now.items c.args.to c.args.n c.requires.roomy) c.requires.below (omega arith) (rw c.as_slice.ensures.value at c.cell_at-c.ensures) c.copying.invariant)
