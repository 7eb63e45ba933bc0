use Rattle.std.proofs.Common.{◌≡◌, ◌*◌, ◌/◌, ◌%◌, ◌+◌, ◌∙◌, set, arith}
use Rattle.std.proofs.lemmas.List.{length-set}
use Rattle.sc_cells.specs.Pages.{four_of}
use Rattle.sc_cells.proofs.Words.{four-count, four_found, two_set, seen-length}
use Rattle.sc_cells.proofs.page.Page.with_two.Goals as goal

pub index-requires : goal.index-requires
index-requires c =
    let n = seen-length c.self.inside.quads.items c.self.inside.loose.items c.args.self.now c.self.view_is in
    let less = c.requires.inside in
    omega arith

pub four_of_quad-four-requires : goal.four_of_quad-four-requires
four_of_quad-four-requires c =
    let n = seen-length c.self.inside.quads.items c.self.inside.loose.items c.args.self.now c.self.view_is in
    let less = c.requires.inside in
    let few = c.self.invariant.few in
    omega arith

pub returns-clause-inside : goal.returns-clause-inside
returns-clause-inside c =
    let n = seen-length c.self.inside.quads.items c.self.inside.loose.items c.args.self.now c.self.view_is in
    let less = c.requires.inside in
    omega arith

pub returns-clause-count : goal.returns-clause-count
returns-clause-count c =
    let n = seen-length c.self.inside.quads.items c.self.inside.loose.items c.args.self.now c.self.view_is in
    let less = c.requires.inside in
    let four : c.four_of_quad-four.result ≡ four_of c.args.self.now.cells (4 * (c.args.j / 4)) = four_found c.self.inside.quads.items c.self.inside.loose.items c.args.self.now (c.args.j / 4) c.index.result.now c.four_of_quad-four.result c.self.view_is (omega arith) c.index.ensures (rw c.as_slice.ensures.value at c.four_of_quad-four.ensures) in
    length-set (set c.four_of_quad-four.result (c.args.j % 4) c.args.a) (c.args.j % 4 + 1) c.args.b ∙ length-set c.four_of_quad-four.result (c.args.j % 4) c.args.a ∙ four-count c.args.self.now.cells c.four_of_quad-four.result (4 * (c.args.j / 4)) four

pub returns-clause-four : goal.returns-clause-four
returns-clause-four c =
    let n = seen-length c.self.inside.quads.items c.self.inside.loose.items c.args.self.now c.self.view_is in
    let less = c.requires.inside in
    let four : c.four_of_quad-four.result ≡ four_of c.args.self.now.cells (4 * (c.args.j / 4)) = four_found c.self.inside.quads.items c.self.inside.loose.items c.args.self.now (c.args.j / 4) c.index.result.now c.four_of_quad-four.result c.self.view_is (omega arith) c.index.ensures (rw c.as_slice.ensures.value at c.four_of_quad-four.ensures) in
    two_set c.args.self.now.cells c.four_of_quad-four.result c.args.j c.args.a c.args.b four c.requires.near
