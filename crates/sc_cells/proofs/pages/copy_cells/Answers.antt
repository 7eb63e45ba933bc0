use Rattle.std.proofs.Common.{◌∙◌, ap}
use Rattle.sc_cells.specs.Range.{range_of, with_range}
use Rattle.sc_cells.proofs.Paged.{cells-grown, paged-grown, paged-shape}
use Rattle.sc_cells.proofs.pages.copy_cells.Goals as goal

pub returns-in-Ok-clause-cells : goal.returns-in-Ok-clause-cells
returns-in-Ok-clause-cells c = λ size l m.
    c.copy_taken.ensures.cells size l m ∙ ap (λ all. with_range all c.args.to (range_of all c.args.from c.args.n)) (cells-grown size c.args.pages.now.items c.take_pages.new.pages.items c.take_pages.ensures.grows)

pub returns-in-Ok-clause-paged : goal.returns-in-Ok-clause-paged
returns-in-Ok-clause-paged c = λ size h. paged-shape c.take_pages.new.pages.items c.copy_taken.new.pages.items size (paged-grown c.args.pages.now.items c.take_pages.new.pages.items size h c.take_pages.ensures.grows) c.copy_taken.ensures.shape

pub returns-in-Err-clause-cells : goal.returns-in-Err-clause-cells
returns-in-Err-clause-cells c = λ size l m. cells-grown size c.args.pages.now.items c.take_pages.new.pages.items c.take_pages.ensures.grows

pub returns-in-Err-clause-paged : goal.returns-in-Err-clause-paged
returns-in-Err-clause-paged c = λ size h. paged-grown c.args.pages.now.items c.take_pages.new.pages.items size h c.take_pages.ensures.grows
