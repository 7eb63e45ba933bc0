use Rattle.sc_top.proofs.Gaining.{marked_same, marked_dropped}
use Rattle.sc_top.proofs.TakingLemmas.{taken_out}
use Rattle.sc_top.proofs.line.take_out.Goals as goal

pub returns-in-Some-clause-left : goal.returns-in-Some-clause-left
returns-in-Some-clause-left g c =
    taken_out c.args.which c.in-Some.k c.args.probes.now.items c.drop_probe.new.probes.items c.args.deaf.now c.drop_probe.new.deaf c.drop_probe.result c.in-Some.is c.drop_probe.ensures.found c.drop_probe.ensures.probes c.drop_probe.ensures.marks

pub returns-in-Some-clause-marked : goal.returns-in-Some-clause-marked
returns-in-Some-clause-marked g c = marked_dropped _ _ _ _ _ _ _ _ c.drop_probe.ensures.found c.drop_probe.ensures.probes c.drop_probe.ensures.marks

pub returns-in_default-clause-marked : goal.returns-in_default-clause-marked
returns-in_default-clause-marked g c = marked_same _ _ c.args.probes.now.items c.args.deaf.now
