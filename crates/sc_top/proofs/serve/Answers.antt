use Rattle.std.proofs.Common.{◌≡◌, length, rules}
use Rattle.sc_session.specs.Transcript.{limits_of}
use Rattle.sc_top.proofs.AttendLemmas.{ended_of}
use Rattle.sc_top.proofs.Gaining.{told_over}
use Rattle.sc_top.proofs.MeaningLemmas.{as_meant}
use Rattle.sc_top.proofs.serve.Goals as goal

pub returns-clause-ended : goal.returns-clause-ended
returns-clause-ended g c =
    let begun = rw c.new-session.ensures at c.answer_all-status.ensures.heard in
    let counted : c.len.result ≡ length c.args.probes.now.items = search rules in
    let heard = rw counted at begun in
    ended_of _ _ _ _ _ _ _ _ _ heard

pub returns-clause-meaning : goal.returns-clause-meaning
returns-clause-meaning g c =
    let begun = rw c.new-session.ensures at c.answer_all-status.ensures.heard in
    let counted : c.len.result ≡ length c.args.probes.now.items = search rules in
    let heard = rw counted at begun in
    as_meant (limits_of c.args.options.now) _ _ _ _ _ _ _ _ (ended_of _ _ _ _ _ _ _ _ _ heard)

pub returns-clause-heard : goal.returns-clause-heard
returns-clause-heard g c =
    let begun = rw c.new-session.ensures at c.answer_all-status.ensures.heard in
    let counted : c.len.result ≡ length c.args.probes.now.items = search rules in
    rw counted at begun

pub returns-clause-probes : goal.returns-clause-probes
returns-clause-probes g c = told_over _ _ _ _ _ _ c.new-deaf.ensures c.answer_all-status.ensures.probes
