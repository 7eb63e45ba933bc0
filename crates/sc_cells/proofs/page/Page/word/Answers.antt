use Rattle.std.proofs.Common.{◌≡◌, ◌∙◌, ◌/◌, List, ap, get_or}
use Rattle.sc_cells.specs.declared.page.Quad.{Quad}
use Rattle.sc_cells.specs.declared.page.Quad.TheVariants.{Mixed}
use Rattle.sc_cells.proofs.Words.{word_is}
use Rattle.sc_cells.proofs.page.Page.word.Goals as goal

pub returns-in-Some-clause-word : goal.returns-in-Some-clause-word
returns-in-Some-clause-word c =
    let quads = c.self.inside.quads.items in
    let j = c.args.j in
    let is : c.in-Some.quad.now ≡ get_or quads (j / 4) Mixed = c.in-Some.ensures.lookup.3.1 Mixed ∙ ap (λ (qs : List Quad). get_or qs (j / 4) Mixed) c.deref.ensures.value in
    word_is quads c.self.inside.loose.items c.args.self.now j c.in-Some.quad.now c.whole.result c.self.view_is c.if-j-ne0.false (rw (← c.deref.ensures.value) c.in-Some.ensures.lookup.3.0) is c.whole.ensures
