use Rattle.std.proofs.Common.{◌≡◌, ◌+◌, drop, drop-drop, arith}
use Rattle.sc_core.specs.declared.statement.CoreStmt.{out-CoreStmt}
use Rattle.sc_interp_machine.specs.Rests.{pieces_in}
use Rattle.sc_interp_machine.proofs.rest.Pieces.skip.Goals as goal

pub returns : goal.returns
returns c =
    let e = drop-drop 1 c.self.inside.at (pieces_in (out-CoreStmt c.self.inside.declarator)) in
    let s : c.in-Some.at ≡ c.self.inside.at + 1 = omega arith in
    cc
