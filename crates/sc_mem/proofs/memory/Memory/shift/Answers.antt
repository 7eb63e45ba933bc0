use Rattle.std.proofs.Common.{rules, ◌≤◌, arith}
use Rattle.sc_objects.specs.Numbered.{IsLive}
use Rattle.sc_mem.proofs.Rules.{place-end}
use Rattle.sc_mem.proofs.memory.Memory.shift.Goals as goal

pub overflow_add-result : goal.overflow_add-result
overflow_add-result c =
    let s = c.self.inside in
    let o = c.in-Some.object in
    let live : IsLive s.objects c.args.p.tag o = search rules in
    let low = place-end s.heap_bytes s.stack o.base o.size c.self.invariant.heap c.self.invariant.stack (c.self.invariant.within c.args.p.tag o live) in
    let inside : c.in-Some-moved.further ≤ o.size = search rules in
    omega arith
