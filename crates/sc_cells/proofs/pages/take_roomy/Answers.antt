use Rattle.std.proofs.Common.{◌≡◌, length, subst}
use Rattle.std.specs.Prelude.{MatchResult}
use Rattle.sc_cells.specs.Pages.{Sheet, untaken}
use Rattle.sc_cells.proofs.Paged.{any-default, inside_taken, room_grows}
use Rattle.sc_cells.proofs.pages.take_roomy.Goals as goal

pub returns-clause-grows : goal.returns-clause-grows
returns-clause-grows c =
    let now = c.take_page.new.pages.items in
    let page = c.make_room.new.page in
    let here = any-default now c.args.p c.index_mut.result.now untaken c.index_mut.ensures.value (inside_taken c.args.pages.now.items now c.args.p c.args.p c.requires.inside c.in_ok-take_page.ensures c.requires.inside) in
    room_grows c.args.pages.now.items now c.args.p page c.make_room.result c.requires.inside c.in_ok-take_page.ensures
    (subst (λ (old : Sheet). MatchResult c.make_room.result (λ _. (page.cells ≡ old.cells) × (page.room ≡ length old.cells)) (λ _. page ≡ old)) here c.make_room.ensures)
