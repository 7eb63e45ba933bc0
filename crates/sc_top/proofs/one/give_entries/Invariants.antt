use Rattle.std.proofs.Common.{drop}
use Rattle.sc_top.specs.Spread.{notes_of}
use Rattle.sc_top.proofs.Hearing.{Ahead}
use Rattle.sc_top.proofs.one.give_entries.Given as goal

abbrev pub invariant-loop-entry : goal.invariant-loop-entry
invariant-loop-entry g l =
    Ahead ((goal.Probe-dyn g (l.initial.probe.vtable, l.initial.probe.value)).notes l.initial.probe.value) ((goal.Probe-dyn g (l.probe.vtable, l.probe.value)).notes l.probe.value)
    ((goal.Probe-dyn g (l.initial.probe.vtable, l.initial.probe.value)).faults l.initial.probe.value) ((goal.Probe-dyn g (l.probe.vtable, l.probe.value)).faults l.probe.value)
    (notes_of l.entries) (notes_of (drop l.entry-index l.entries))
