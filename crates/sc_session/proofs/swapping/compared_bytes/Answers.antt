use Rattle.std.proofs.Common.{sym, ◌∙◌}
use Rattle.sc_session_forms.proofs.DifferenceLemmas.{same}
use Rattle.sc_session.proofs.SwappingLemmas.{not_ours_so}
use Rattle.sc_session.proofs.swapping.compared_bytes.Goals as goal

pub returns-in-None : goal.returns-in-None
returns-in-None c = same c.args.bytes.now c.as_slice.result.now (sym c.difference.ensures ∙ c.in-None.is) ∙ c.as_slice.ensures.value ∙ c.in-Ok.ensures

pub returns : goal.returns
returns c =
    not_ours_so c.args.bytes.now c.as_slice.result.now c.args.object.now c.in-Some.at c.not_ours.result
    (sym c.difference.ensures ∙ c.in-Some.is) (c.as_slice.ensures.value ∙ c.in-Ok.ensures) c.not_ours.ensures
