use Rattle.std.proofs.Common.{◌/◌}
use Rattle.sc_cells.proofs.Paged.{word_cells}
use Rattle.sc_cells.proofs.pages.write_aligned.Goals as goal

pub returns-clause-cells : goal.returns-clause-cells
returns-clause-cells c = word_cells c.args.pages.now.items c.take_page.new.pages.items c.put_word_at.new.pages.items c.args.at c.args.w c.requires.inside c.requires.aligned (c.requires.whole (c.args.at / 8192)) c.in_ok-take_page.ensures c.put_word_at.ensures
