use Rattle.std.proofs.Common.{◌≡◌, ◌∙◌, Err}
use Rattle.sc_pp_condition.specs.Terms.{terms_of}
use Rattle.sc_pp_condition.specs.declared.machine.Trouble.TheVariants as trouble
use Rattle.sc_pp_condition.proofs.Conditions.{by_value, no_value}
use Rattle.sc_pp_condition.proofs.Verdicts.{by_none, at_expression, meaning}
use Rattle.sc_pp_condition.proofs.truth.condition.Goals as goal

pub returns-in-Ok-clause-value : goal.returns-in-Ok-clause-value
returns-in-Ok-clause-value c = by_value (terms_of c.args.tokens.now) c.as_slice.result.now c.as_slice-in-Ok.result.now c.in-Ok.x c.is_deep.result c.decided.result (c.as_slice.ensures ∙ c.in_ok-terms.ensures) (c.as_slice-in-Ok.ensures ∙ c.in_ok-terms.ensures) c.in-Ok.ensures.only c.is_deep.ensures c.decided.ensures

pub returns-in-Err-Syntax-clause-value : goal.returns-in-Err-Syntax-clause-value
returns-in-Err-Syntax-clause-value c =
    let syntax : c.expression.result ≡ Err trouble.Syntax = cc in
    λ x d. absurd (no_value (terms_of c.args.tokens.now) c.as_slice.result.now c.expression.result (c.as_slice.ensures ∙ c.in_ok-terms.ensures) c.expression.ensures.syntax syntax x d)

pub returns-in-Ok-clause-verdict : goal.returns-in-Ok-clause-verdict
returns-in-Ok-clause-verdict c =
    let same = c.as_slice.ensures ∙ c.in_ok-terms.ensures in
    let here = rw same at c.in-Ok.ensures.found in
    at_expression c.args.tokens.now c.in-Ok.x c.decided.result here
    (by_value (terms_of c.args.tokens.now) c.as_slice.result.now c.as_slice-in-Ok.result.now c.in-Ok.x c.is_deep.result c.decided.result same (c.as_slice-in-Ok.ensures ∙ c.in_ok-terms.ensures) c.in-Ok.ensures.only c.is_deep.ensures c.decided.ensures)

pub returns-in-Err-Syntax-clause-verdict : goal.returns-in-Err-Syntax-clause-verdict
returns-in-Err-Syntax-clause-verdict c =
    let syntax : c.expression.result ≡ Err trouble.Syntax = cc in
    by_none c.args.tokens.now (λ e. no_value (terms_of c.args.tokens.now) c.as_slice.result.now c.expression.result (c.as_slice.ensures ∙ c.in_ok-terms.ensures) c.expression.ensures.syntax syntax e.0 e.1)

pub returns-in-Ok-clause-meaning : goal.returns-in-Ok-clause-meaning
returns-in-Ok-clause-meaning c = meaning

pub returns-in-Err-Syntax-clause-meaning : goal.returns-in-Err-Syntax-clause-meaning
returns-in-Err-Syntax-clause-meaning c = meaning

pub returns-in_err-terms-clause-meaning : goal.returns-in_err-terms-clause-meaning
returns-in_err-terms-clause-meaning c = meaning

pub returns-clause-meaning : goal.returns-clause-meaning
returns-clause-meaning c = meaning
