use Rattle.std.proofs.Common.{rules, refl}
use Rattle.sc_top.proofs.Rounds.{more_unheard, end_unheard}
use Rattle.sc_top.proofs.giving.is_heard.Goals as goal

pub loop-k-preserved : goal.loop-k-preserved
loop-k-preserved g c =
    more_unheard c.args.probes.now.items (λ p. (goal.Probe-dyn g (p.vtable, p.value)).notes p.value) c.loop-k.k c.args.deaf.now c.index.result.now c.marked.result
    (search rules) c.index.ensures c.marked.ensures (c.if-is_open.ensures refl) c.loop-k.invariant

pub returns : goal.returns
returns g c = λ e. end_unheard c.args.probes.now.items (λ p. (goal.Probe-dyn g (p.vtable, p.value)).notes p.value) c.loop-k.k 16 c.args.deaf.now (search rules) (search rules) c.loop-k.invariant
