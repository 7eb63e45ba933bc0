use Rattle.std.proofs.Common.{subst}
use Rattle.sc_incr.specs.Plans.{IsPlan}
use Rattle.sc_incr.proofs.Planned.{joins-plan}
use Rattle.sc_incr.proofs.linked.put_module.Goals as goal

pub exchange-requires-clause-joins : goal.exchange-requires-clause-joins
exchange-requires-clause-joins c =
    let es = c.args.entries.now.items in
    let fs = c.args.funs.now.items in
    let m = c.args.«module».now in
    let p = subst (λ xs. IsPlan xs fs m c.args.kept.now c.in-Ok.plan) c.as_slice.ensures.value (subst (λ ys. IsPlan c.as_slice.result.now ys m c.args.kept.now c.in-Ok.plan) c.as_slice-2.ensures.value c.in-Ok.ensures.ok) in
    joins-plan c.args.keep_old es fs m c.args.kept.now c.in-Ok.plan c.requires.patched.settled p c.requires.sound c.requires.agrees c.requires.kept
