use Rattle.std.proofs.Common.{[], sym, ◌∙◌, ap}
use Rattle.sc_pp.specs.declared.asking.Asking.TheVariants.{Nothing}
use Rattle.sc_pp.specs.Conditionals.{answered}
use Rattle.sc_pp.proofs.Entering.{value_by}
use Rattle.sc_pp.proofs.condition_line.tests_value.Goals as goal

pub returns-in-Some : goal.returns-in-Some
returns-in-Some c =
    let found = sym (ap (answered c.args.state.now.env Nothing []) c.as_slice.ensures) ∙ sym c.in-Ok.ensures ∙ c.in-Some.is in
    value_by c.args.place.now c.args.state.now c.tests_tokens.new.state c.args.directive.now.line (answered c.args.state.now.env Nothing [] c.args.directive.now.tokens) c.in-Some.tokens c.as_slice-in-Some.result.now c.tests_tokens.result found c.as_slice-in-Some.ensures (c.tests_tokens.ensures)
