use Rattle.std.proofs.Common.{◌-◌}
use Rattle.sc_mem.proofs.Kept.{safe-blocks, taken-bytes}
use Rattle.sc_mem.proofs.Ready.{ready-found}
use Rattle.sc_mem.proofs.memory.Memory.take.Goals.{in-Ok-Some, in-Ok-None, in-Err}
use Rattle.sc_mem.proofs.memory.Memory.take.Goals as goal

pub invariant_of-self : goal.invariant_of-self
invariant_of-self c =
    let s = c.self.inside in
    safe-blocks s.heap_bytes s.stack s.cells s.objects s.heap c.take.new.self c.self.invariant c.take.ensures.tiled.1
    (taken-bytes c.take.result c.args.n s.heap c.take.new.self c.take.ensures.taken)
    (λ id o k h kind low there. c.take.ensures.keeps (o.base - 0x10000000) k there)

pub returns-clause-ready : goal.returns-clause-ready
returns-clause-ready c =
    let s = c.self.inside in
    let ready = ready-found s.heap_bytes s.stack s.cells s.objects s.heap c.take.new.self c.args.n c.take.result c.self.invariant c.take.ensures.tiled.1 c.take.ensures.taken c.take.ensures.class in
    elim c.match-take.branch [
      | in-Ok-Some w ↦ rw w.result-is (rw w.in-Ok-Some.field-0-is at (rw w.in-Ok-Some.is at ready))
      | in-Ok-None w ↦ rw w.result-is tt
      | in-Err w ↦ rw w.result-is tt
    ]
