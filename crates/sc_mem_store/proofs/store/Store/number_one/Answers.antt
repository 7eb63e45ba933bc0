use Rattle.std.proofs.Common.{ap, subst, sym}
use Rattle.sc_mem_store.specs.Kept.{Kept}
use Rattle.sc_mem_store.specs.Stray.{HasNoStray}
use Rattle.sc_mem_store.proofs.Numbering.{holds_numbered}
use Rattle.sc_mem_store.proofs.store.Store.number_one.Goals as goal

pub invariant_of-self-2 : goal.invariant_of-self-2
invariant_of-self-2 c =
    let s = c.self.inside in
    let none : HasNoStray s.history.objects = subst HasNoStray (sym (ap (λ (k : Kept). k.objects) c.self.view_is)) c.requires in
    rw c.in_ok-push.ensures.ok
    (holds_numbered s.history.objects s.memory.flat s.functions c.args.key c.self.invariant none)
