use Rattle.sc_top.proofs.Rounds.{heard_whole}
use Rattle.sc_top.proofs.giving.give_to.Goals as goal

pub returns : goal.returns
returns g c =
    heard_whole c.args.probe.now c.give_entries-kept.new.probe (λ p. (goal.Probe-dyn g (p.vtable, p.value)).notes p.value) (λ p. (goal.Probe-dyn g (p.vtable, p.value)).faults p.value)
    _ c.args.marked c.give_entries-kept.result c.if-marked.false c.give_entries-kept.ensures
