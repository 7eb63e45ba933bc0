use Rattle.std.proofs.Common.{ap}
use Rattle.sc_pp.specs.Outcomes.{after}
use Rattle.sc_pp_condition.specs.Verdict.{verdict}
use Rattle.sc_pp.specs.Conditionals.{told}
use Rattle.sc_pp.specs.Directives.{with_state}
use Rattle.sc_pp.proofs.Entering.{value_told}
use Rattle.sc_pp.proofs.condition_line.tests_tokens.Goals as goal

pub returns-in-Ok : goal.returns-in-Ok
returns-in-Ok c =
    let told_so = rw c.as_slice.ensures at (c.truth.ensures) in
    value_told c.args.place.now c.args.state.now c.expanded.new.state c.args.line c.args.tokens.now c.in-Ok.tokens c.truth.result c.in-Ok.ensures.yields told_so

pub returns-in-Err : goal.returns-in-Err
returns-in-Err c r q = ap (λ p. after p (λ r. with_state r.0 (told c.args.place.now.name c.args.line (verdict r.1)))) (c.in-Err.ensures.yields r q)
