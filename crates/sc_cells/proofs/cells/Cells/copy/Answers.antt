use Rattle.std.proofs.Common.{◌≡◌, ◌∙◌, length, ap, sym, arith}
use Rattle.sc_cells.proofs.Paged.{length_cells}
use Rattle.sc_cells.proofs.cells.Cells.copy.Goals as goal

pub copy_cells-requires-clause-target : goal.copy_cells-requires-clause-target
copy_cells-requires-clause-target c =
    let pages = c.self.inside.pages.items in
    let size = c.self.inside.size in
    let l : length c.args.self.now ≡ size = ap length (sym c.self.view_is) ∙ length_cells pages size in
    let enough = c.self.invariant.enough in
    let asked = c.requires.target in
    omega arith

pub copy_cells-requires-clause-source : goal.copy_cells-requires-clause-source
copy_cells-requires-clause-source c =
    let pages = c.self.inside.pages.items in
    let size = c.self.inside.size in
    let l : length c.args.self.now ≡ size = ap length (sym c.self.view_is) ∙ length_cells pages size in
    let enough = c.self.invariant.enough in
    let asked = c.requires.source in
    omega arith

pub returns-clause-cells : goal.returns-clause-cells
returns-clause-cells c =
    let pages = c.self.inside.pages.items in
    let size = c.self.inside.size in
    let l : length c.args.self.now ≡ size = ap length (sym c.self.view_is) ∙ length_cells pages size in
    let one = c.requires.target in
    let two = c.requires.source in
    rw (← c.self.view_is) (c.copy_cells.ensures.cells size (omega arith) (omega arith))

pub returns-clause-len : goal.returns-clause-len
returns-clause-len c =
    let pages = c.self.inside.pages.items in
    let size = c.self.inside.size in
    let l : length c.args.self.now ≡ size = ap length (sym c.self.view_is) ∙ length_cells pages size in
    length_cells c.copy_cells.new.pages.items size ∙ sym l

pub invariant_of-self : goal.invariant_of-self
invariant_of-self c = c.copy_cells.ensures.paged c.self.inside.size c.self.invariant
