use Rattle.std.proofs.Common.{drop, ap, sym, ◌∙◌}
use Rattle.sc_session_forms.specs.Differences.{difference_from}
use Rattle.sc_session_forms.proofs.DifferenceLemmas.{ends_first, nothing}
use Rattle.sc_session_forms.proofs.differing.difference.Goals as goal

pub returns-in_default : goal.returns-in_default
returns-in_default c =
    sym (ends_first c.loop-i.i c.args.left.now c.loop-i.i c.loop-i-test.true)
    ∙ ap (difference_from c.loop-i.i (drop c.loop-i.i c.args.left.now)) (nothing c.loop-i.rest.now c.in_default.ensures.cases) ∙ c.loop-i.invariant
