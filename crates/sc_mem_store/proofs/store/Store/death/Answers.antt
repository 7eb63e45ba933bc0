use Rattle.std.proofs.Common.{rules}
use Rattle.sc_objects.specs.Numbered.{IsLive}
use Rattle.sc_mem_store.proofs.Holding.{holds_ended}
use Rattle.sc_mem_store.proofs.store.Store.death.Goals as goal

pub invariant_of-self : goal.invariant_of-self
invariant_of-self c =
    let s = c.self.inside in
    let live : IsLive s.memory.flat.objects c.args.id c.in-Some.object = search rules in
    rw (c.after-self-inside.ensures, c.end_object.ensures.flat)
    (holds_ended s.history.objects s.memory.flat s.functions c.args.id c.in-Some.object c.self.invariant live)
