use Rattle.sc_top.specs.Given.{AreUnheard}
use Rattle.sc_top.proofs.giving.is_heard.Given as goal

abbrev pub invariant-loop-k : goal.invariant-loop-k
invariant-loop-k g l = AreUnheard l.k (λ p. (goal.Probe-dyn g (p.vtable, p.value)).notes p.value) l.probes.items l.deaf
