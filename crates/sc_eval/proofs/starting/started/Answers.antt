-- The whole text is a unit.
use Rattle.std.proofs.Common.{rules, ◌≡◌}
use Rattle.sc_eval.specs.Texts.{text_of}
use Rattle.sc_eval.proofs.Asking.{unit_of_text}
use Rattle.sc_eval.proofs.starting.started.Goals as goal

pub returns-in-Ok : goal.returns-in-Ok
returns-in-Ok c =
    let same : c.as_slice.result.now ≡ text_of c.args.tokens.now c.args.e.now = search rules in
    c.asked.ensures c.args.tokens.now c.in_ok-names.ensures
    (unit_of_text c.args.tokens.now c.args.e.now c.as_slice.result.now c.in-Ok.unit same c.in-Ok.ensures)
