use Rattle.std.proofs.Common.{rules, true, ◌∙◌}
use Rattle.sc_top.specs.Spread.{notes_of}
use Rattle.sc_top.proofs.Rounds.{more_given, more_kept, end_given}
use Rattle.sc_top.proofs.giving.give.Goals as goal
use Rattle.sc_top.proofs.giving.give.Goals.{then-give_to, else-give_to}

pub loop-k-preserved : goal.loop-k-preserved
loop-k-preserved g c = elim c.if-give_to.branch [
  | then-give_to w ↦ more_given c.args.probes.now.items c.loop-k.probes.items (λ p. (goal.Probe-dyn g (p.vtable, p.value)).notes p.value) (λ p. (goal.Probe-dyn g (p.vtable, p.value)).faults p.value)
      (notes_of c.args.entries.now) c.loop-k.k c.args.deaf.now c.loop-k.deaf c.if-give_to.deaf c.index_mut.result.now c.give_to.new.probe c.marked-marked.result true
      (search rules) c.index_mut.ensures.value c.marked-marked.ensures (w.deaf-is ∙ w.mark.ensures) w.if-give_to.ensures c.loop-k.invariant
  | else-give_to w ↦ more_kept c.args.probes.now.items c.loop-k.probes.items (λ p. (goal.Probe-dyn g (p.vtable, p.value)).notes p.value) (λ p. (goal.Probe-dyn g (p.vtable, p.value)).faults p.value)
      (notes_of c.args.entries.now) c.loop-k.k c.args.deaf.now c.loop-k.deaf c.if-give_to.deaf c.index_mut.result.now c.give_to.new.probe c.marked-marked.result
      (search rules) c.index_mut.ensures.value c.marked-marked.ensures w.deaf-is w.if-give_to.ensures c.loop-k.invariant
]

pub returns : goal.returns
returns g c =
    end_given c.args.probes.now.items c.loop-k.probes.items (λ p. (goal.Probe-dyn g (p.vtable, p.value)).notes p.value) (λ p. (goal.Probe-dyn g (p.vtable, p.value)).faults p.value)
    (notes_of c.args.entries.now) c.loop-k.k 16 c.args.deaf.now c.loop-k.deaf (search rules) (search rules) c.loop-k.invariant
