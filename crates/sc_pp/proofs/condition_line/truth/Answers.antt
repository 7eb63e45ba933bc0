use Rattle.std.proofs.Common.{Err, sym, ◌∙◌, ap}
use Rattle.sc_pp.specs.Conditionals.{told}
use Rattle.sc_pp.proofs.condition_line.truth.Goals as goal

pub returns-in-Ok : goal.returns-in-Ok
returns-in-Ok c = ap (told c.args.place.now.name c.args.line) c.in-Ok.ensures.verdict

pub returns-in-Err-Malformed : goal.returns-in-Err-Malformed
returns-in-Err-Malformed c r q =
    let verdict = rw c.in-Err-Malformed.field-0-is at c.in-Err-Malformed.ensures.verdict in
    ap (told c.args.place.now.name c.args.line) verdict ∙ ap Err (sym (c.refused.ensures r q))

pub returns-in-Err-TooHigh : goal.returns-in-Err-TooHigh
returns-in-Err-TooHigh c r q =
    let verdict = rw c.in-Err-TooHigh.field-0-is at c.in-Err-TooHigh.ensures.verdict in
    ap (told c.args.place.now.name c.args.line) verdict ∙ ap Err (sym (c.beyond.ensures r q))
