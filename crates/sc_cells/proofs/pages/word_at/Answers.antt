use Rattle.std.proofs.Common.{ap}
use Rattle.sc_cells.specs.Pages.{Sheet}
use Rattle.sc_cells.proofs.Paged.{four-word}
use Rattle.sc_cells.proofs.pages.word_at.Goals as goal

pub returns : goal.returns
returns c = four-word c.args.pages.now c.args.i c.word.result c.page_at.result.now.cells (ap (λ (page : Sheet). page.cells) c.page_at.ensures) c.word.ensures.aligned c.word.ensures.word
