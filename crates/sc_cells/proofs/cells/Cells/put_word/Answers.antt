use Rattle.std.proofs.Common.{◌≡◌, ◌∙◌, length, ap, sym, arith}
use Rattle.sc_cells.proofs.Paged.{length_cells}
use Rattle.sc_cells.proofs.cells.Cells.put_word.Goals as goal

pub write_word-requires-clause-inside : goal.write_word-requires-clause-inside
write_word-requires-clause-inside c =
    let pages = c.self.inside.pages.items in
    let size = c.self.inside.size in
    let l : length c.args.self.now ≡ size = ap length (sym c.self.view_is) ∙ length_cells pages size in
    let enough = c.self.invariant.enough in
    let asked = c.requires in
    omega arith

pub returns-clause-cells : goal.returns-clause-cells
returns-clause-cells c =
    let pages = c.self.inside.pages.items in
    let size = c.self.inside.size in
    let l : length c.args.self.now ≡ size = ap length (sym c.self.view_is) ∙ length_cells pages size in
    let asked = c.requires in
    rw (← c.self.view_is) (c.write_word.ensures.cells size (omega arith))

pub returns-clause-len : goal.returns-clause-len
returns-clause-len c =
    let pages = c.self.inside.pages.items in
    let size = c.self.inside.size in
    let l : length c.args.self.now ≡ size = ap length (sym c.self.view_is) ∙ length_cells pages size in
    length_cells c.write_word.new.pages.items size ∙ sym l

pub invariant_of-self : goal.invariant_of-self
invariant_of-self c = c.write_word.ensures.paged c.self.inside.size c.self.invariant
