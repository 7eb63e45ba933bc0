use Rattle.std.proofs.Common.{◌-◌}
use Rattle.sc_top.specs.Spread.{puts}
use Rattle.sc_top.proofs.Hearing.{Ahead}
use Rattle.sc_top.proofs.one.give_puts.Given as goal

abbrev pub invariant-loop : goal.invariant-loop
invariant-loop g l =
    Ahead ((goal.Probe-dyn g (l.initial.probe.vtable, l.initial.probe.value)).notes l.initial.probe.value) ((goal.Probe-dyn g (l.probe.vtable, l.probe.value)).notes l.probe.value)
    ((goal.Probe-dyn g (l.initial.probe.vtable, l.initial.probe.value)).faults l.initial.probe.value) ((goal.Probe-dyn g (l.probe.vtable, l.probe.value)).faults l.probe.value)
    (puts l.at l.size l.count l.word) (puts l.next l.size (l.count - l.counter) l.word)
