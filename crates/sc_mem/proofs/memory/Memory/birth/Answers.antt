use Rattle.std.proofs.Common.{sym, subst, true}
use Rattle.std.specs.Option.{IsSome}
use Rattle.sc_objects.specs.declared.objects.Obj.{Obj}
use Rattle.sc_objects.specs.Numbered.{IsClear}
use Rattle.sc_mem.specs.Flat.{place}
use Rattle.sc_mem.specs.Safe.{Store, Stands}
use Rattle.sc_mem.proofs.Kept.{safe-born}
use Rattle.sc_mem.proofs.memory.Memory.birth.Goals as goal

pub birth-requires : goal.birth-requires
birth-requires c = subst (λ (s : Store). IsClear s.flat.objects c.args.base c.args.size) (sym c.self.view_is) c.requires.clear

pub invariant_of-self : goal.invariant_of-self
invariant_of-self c =
    let s = c.self.inside in
    let o : Obj = record { size = c.args.size; kind = c.args.kind; base = c.args.base; live = true } in
    let clear = subst (λ (v : Store). IsClear v.flat.objects c.args.base c.args.size) (sym c.self.view_is) c.requires.clear in
    let area = subst (λ (v : Store). IsSome (place v.flat c.args.base c.args.size)) (sym c.self.view_is) c.requires.area in
    let stands = subst (λ (v : Store). Stands v.blocks c.args.kind c.args.base c.args.size) (sym c.self.view_is) c.requires.stands in
    rw c.in-Ok.ensures.born (safe-born s.heap_bytes s.stack s.cells c.clear.new.self s.objects s.heap o c.self.invariant c.clear.ensures.len clear area stands)
