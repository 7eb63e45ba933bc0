use Rattle.std.proofs.Common.{◌+◌, List, length, take, subst, sym, arith}
use Rattle.sc_cells.specs.Pages.{Rewritten, Sheet}
use Rattle.sc_cells.proofs.Paged.{are-taken, row-step}
use Rattle.sc_cells.proofs.pages.put_row.Goals as goal

pub putting-preserved : goal.putting-preserved
putting-preserved c =
    let first = c.args.pages.now.items in
    let row = c.args.row.now in
    let k = c.putting.k in
    subst (λ (ps : List Sheet). Rewritten first ps (c.args.at + length row) c.args.at (λ all. take (k + 1) row)) (sym c.put_at.ensures)
    (row-step first c.putting.pages.items c.args.at k row c.cell_of.result c.requires.inside (are-taken c.args.pages.now.items c.args.at (length row) c.requires.roomy) (omega arith) c.cell_of.ensures c.putting.invariant)
