use Rattle.std.proofs.Common.{◌∙◌, ap}
use Rattle.sc_cells.specs.Range.{with_range}
use Rattle.sc_cells.proofs.Paged.{cells-grown, paged-grown, paged-shape}
use Rattle.sc_cells.proofs.pages.write_any.Goals as goal

pub returns-in-Ok-clause-cells : goal.returns-in-Ok-clause-cells
returns-in-Ok-clause-cells c = λ size l.
    c.put_row.ensures.cells size l ∙ ap (λ all. with_range all c.args.at c.args.row.now) (cells-grown size c.args.pages.now.items c.take_pages.new.pages.items c.take_pages.ensures.grows)

pub returns-in-Ok-clause-paged : goal.returns-in-Ok-clause-paged
returns-in-Ok-clause-paged c = λ size h. paged-shape c.take_pages.new.pages.items c.put_row.new.pages.items size (paged-grown c.args.pages.now.items c.take_pages.new.pages.items size h c.take_pages.ensures.grows) c.put_row.ensures.shape

pub returns-in-Err-clause-cells : goal.returns-in-Err-clause-cells
returns-in-Err-clause-cells c = λ size l. cells-grown size c.args.pages.now.items c.take_pages.new.pages.items c.take_pages.ensures.grows

pub returns-in-Err-clause-paged : goal.returns-in-Err-clause-paged
returns-in-Err-clause-paged c = λ size h. paged-grown c.args.pages.now.items c.take_pages.new.pages.items size h c.take_pages.ensures.grows
