use Rattle.std.proofs.Common.{rules}
use Rattle.sc_top.proofs.Reports.{told_at, none_at, same_at}
use Rattle.sc_top.proofs.list.report.Goals as goal

pub returns-in_err-text_of-in-Some-clause-notes : goal.returns-in_err-text_of-in-Some-clause-notes
returns-in_err-text_of-in-Some-clause-notes g c =
    same_at c.args.probes.now.items (λ p. (goal.Probe-dyn g (p.vtable, p.value)).notes p.value) c.args.k c.in-Some.probe.now c.text_of.new.probe (search rules) (search rules) c.text_of.ensures.notes

pub returns-in_err-text_of-in-Some-clause-faults : goal.returns-in_err-text_of-in-Some-clause-faults
returns-in_err-text_of-in-Some-clause-faults g c =
    same_at c.args.probes.now.items (λ p. (goal.Probe-dyn g (p.vtable, p.value)).faults p.value) c.args.k c.in-Some.probe.now c.text_of.new.probe (search rules) (search rules) c.text_of.ensures.faults

pub returns-in_ok-text_of-in-Some-clause-text : goal.returns-in_ok-text_of-in-Some-clause-text
returns-in_ok-text_of-in-Some-clause-text g c =
    told_at c.args.probes.now.items (λ p. (goal.Probe-dyn g (p.vtable, p.value)).report p.value) c.args.k c.in-Some.probe.now c.in_ok-text_of-in-Some.field-0.items (search rules) (search rules)
    c.in_ok-text_of-in-Some.ensures.text

pub returns-in_ok-text_of-in-Some-clause-notes : goal.returns-in_ok-text_of-in-Some-clause-notes
returns-in_ok-text_of-in-Some-clause-notes g c =
    same_at c.args.probes.now.items (λ p. (goal.Probe-dyn g (p.vtable, p.value)).notes p.value) c.args.k c.in-Some.probe.now c.text_of.new.probe (search rules) (search rules) c.text_of.ensures.notes

pub returns-in_ok-text_of-in-Some-clause-faults : goal.returns-in_ok-text_of-in-Some-clause-faults
returns-in_ok-text_of-in-Some-clause-faults g c =
    same_at c.args.probes.now.items (λ p. (goal.Probe-dyn g (p.vtable, p.value)).faults p.value) c.args.k c.in-Some.probe.now c.text_of.new.probe (search rules) (search rules) c.text_of.ensures.faults

pub returns-in-None-clause-text : goal.returns-in-None-clause-text
returns-in-None-clause-text g c = none_at c.args.probes.now.items (λ p. (goal.Probe-dyn g (p.vtable, p.value)).report p.value) c.args.k (search rules)
