use Rattle.std.proofs.Common.{◌+◌, sym, subst}
use Rattle.sc_services.proofs.Given.{AreFirst, one_more}
use Rattle.sc_services.proofs.arguments.arguments.Goals as goal

pub loop-k-preserved : goal.loop-k-preserved
loop-k-preserved c =
    let l = c.loop-k in
    subst (λ vs. AreFirst (l.k + 1) c.args.regs.now c.args.world.now vs) (sym c.in_ok-push.ensures.ok) (one_more l.k c.args.regs.now c.args.world.now l.values c.in-Some.word c.in_ok-v.v l.invariant c.in-Some.ensures c.in_ok-v.ensures)
