use Rattle.std.proofs.Common.{◌≡◌, ◌∙◌, List, length, ap, subst, sym, arith}
use Rattle.std.specs.Prelude.{IfSome}
use Rattle.sc_base.specs.declared.memory.Word.{Word}
use Rattle.sc_cells.specs.Pages.{Sheet, cells_in, whole_cells}
use Rattle.sc_cells.specs.Range.{range_of}
use Rattle.sc_cells.proofs.Paged.{length_cells}
use Rattle.sc_cells.proofs.cells.Cells.word.Goals as goal

pub returns : goal.returns
returns c =
    let pages = c.self.inside.pages.items in
    let size = c.self.inside.size in
    let l : length c.args.self.now ≡ size = ap length (sym c.self.view_is) ∙ length_cells pages size in
    let asked = c.requires in
    rw (← c.self.view_is) (subst (λ (ps : List Sheet). IfSome c.word_at.result (λ (w : Word). range_of (cells_in size ps) c.args.at 4 ≡ whole_cells w)) c.as_slice.ensures.value (c.word_at.ensures size (omega arith)))

pub word_at-requires : goal.word_at-requires
word_at-requires c =
    let pages = c.self.inside.pages.items in
    let size = c.self.inside.size in
    let l : length c.args.self.now ≡ size = ap length (sym c.self.view_is) ∙ length_cells pages size in
    let enough = c.self.invariant.enough in
    let asked = c.requires in
    rw c.as_slice.ensures.value (omega arith)
