use Rattle.sc_top.specs.Given.{EachIsGiven}
use Rattle.sc_top.specs.Spread.{notes_of}
use Rattle.sc_top.proofs.giving.give.Given as goal

abbrev pub invariant-loop-k : goal.invariant-loop-k
invariant-loop-k g l =
    EachIsGiven l.k (λ p. (goal.Probe-dyn g (p.vtable, p.value)).notes p.value) (λ p. (goal.Probe-dyn g (p.vtable, p.value)).faults p.value) (notes_of l.entries)
    l.initial.probes.items l.probes.items l.initial.deaf l.deaf
