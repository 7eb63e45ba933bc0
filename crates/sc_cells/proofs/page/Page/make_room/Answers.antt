use Rattle.std.proofs.Common.{◌*◌, refl, arith}
use Rattle.sc_cells.proofs.Words.{loosened_so, roomy_already}
use Rattle.sc_cells.proofs.page.Page.make_room.Goals as goal

pub returns-then-len-ne0 : goal.returns-then-len-ne0
returns-then-len-ne0 c = (refl, roomy_already c.self.inside.quads.items c.self.inside.loose.items c.args.self.now c.self.view_is c.self.invariant (λ e. c.if-len-ne0.true (let count = c.len.ensures in omega arith)))

pub returns : goal.returns
returns c =
    let count = c.len-2.ensures in
    loosened_so c.self.inside.quads.items c.self.inside.loose.items c.in_ok-loose.loose.items c.args.self.now (4 * c.len-2.result) c.self.view_is (let none = c.if-len-ne0.false in let before = c.len.ensures in omega arith) c.in_ok-loose.ensures (omega arith)
