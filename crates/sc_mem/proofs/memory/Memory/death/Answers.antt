use Rattle.std.proofs.Common.{◌≡◌, Some, sym, subst, ◌∙◌}
use Rattle.sc_objects.specs.declared.objects.Obj.{Obj}
use Rattle.sc_objects.specs.Numbered.{IsLive, object_of}
use Rattle.sc_mem.specs.Safe.{Store}
use Rattle.sc_mem.proofs.Kept.{safe-ended}
use Rattle.sc_mem.proofs.Ready.{released-ended}
use Rattle.sc_mem.proofs.memory.Memory.death.Goals as goal

pub invariant_of-self : goal.invariant_of-self
invariant_of-self c =
    let s = c.self.inside in
    let live = subst (λ (v : Store). IsLive v.flat.objects c.args.id c.requires.0) (sym c.self.view_is) c.requires.1 in
    rw c.death.ensures (safe-ended s.heap_bytes s.stack s.cells s.objects s.heap c.args.id c.requires.0 c.self.invariant live)

pub returns-clause-released : goal.returns-clause-released
returns-clause-released c =
    let s = c.self.inside in
    λ o there heap.
    let live = subst (λ (v : Store). IsLive v.flat.objects c.args.id c.requires.0) (sym c.self.view_is) c.requires.1 in
    let here : object_of s.objects c.args.id ≡ Some o = subst (λ (v : Store). object_of v.flat.objects c.args.id ≡ Some o) (sym c.self.view_is) there in
    let same : c.requires.0 ≡ o = (let e : Some c.requires.0 ≡ Some o = sym live.0 ∙ here in cc) in
    rw c.death.ensures (released-ended s.heap_bytes s.stack s.cells s.objects s.heap c.args.id o c.self.invariant (subst (λ (p : Obj). IsLive s.objects c.args.id p) same live) heap)
