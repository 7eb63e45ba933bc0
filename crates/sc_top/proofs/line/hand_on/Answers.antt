use Rattle.sc_top.specs.Beside.{seen}
use Rattle.sc_top.proofs.BesideLemmas.{all_handed, nothing_handed}
use Rattle.sc_top.proofs.Gaining.{marked_given, marked_same}
use Rattle.sc_top.proofs.line.hand_on.Goals as goal

pub returns-then-not-goes-clause-given : goal.returns-then-not-goes-clause-given
returns-then-not-goes-clause-given g c =
    nothing_handed (seen (λ p. (goal.Probe-dyn g (p.vtable, p.value)).notes p.value) (λ p. (goal.Probe-dyn g (p.vtable, p.value)).faults p.value) (λ p. (goal.Probe-dyn g (p.vtable, p.value)).report p.value))
    c.args.goes c.args.session.now.state c.args.probes.now.items c.args.deaf.now

pub returns-then-not-goes-clause-marked : goal.returns-then-not-goes-clause-marked
returns-then-not-goes-clause-marked g c = marked_same _ _ c.args.probes.now.items c.args.deaf.now

pub returns-then-not-record-clause-given : goal.returns-then-not-record-clause-given
returns-then-not-record-clause-given g c =
    nothing_handed (seen (λ p. (goal.Probe-dyn g (p.vtable, p.value)).notes p.value) (λ p. (goal.Probe-dyn g (p.vtable, p.value)).faults p.value) (λ p. (goal.Probe-dyn g (p.vtable, p.value)).report p.value))
    c.args.goes c.args.session.now.state c.args.probes.now.items c.args.deaf.now

pub returns-then-not-record-clause-marked : goal.returns-then-not-record-clause-marked
returns-then-not-record-clause-marked g c = marked_same _ _ c.args.probes.now.items c.args.deaf.now

pub returns-clause-given : goal.returns-clause-given
returns-clause-given g c =
    all_handed (seen (λ p. (goal.Probe-dyn g (p.vtable, p.value)).notes p.value) (λ p. (goal.Probe-dyn g (p.vtable, p.value)).faults p.value) (λ p. (goal.Probe-dyn g (p.vtable, p.value)).report p.value))
    c.args.goes c.args.session.now.state c.take_record-record.result c.as_slice.result.now c.args.probes.now.items c.give.new.probes.items c.args.deaf.now c.give.new.deaf
    c.if-not-goes.false c.if-not-record.false c.as_slice.ensures c.take_record-record.ensures.record c.give.ensures

pub returns-clause-marked : goal.returns-clause-marked
returns-clause-marked g c = marked_given _ _ _ _ _ _ _ c.give.ensures
