use Rattle.std.proofs.Common.{rules, ◌≡◌, ◌^◌, ◌<◌, ◌++◌, ◌∷◌, [], refl, subst, None, arith}
use Rattle.sc_base.specs.declared.memory.Kind.TheVariants.{Heap}
use Rattle.sc_mem.specs.Safe.{Store}
use Rattle.sc_meaning.specs.Beside.{born_in}
use Rattle.sc_meaning.specs.World.{fresh}
use Rattle.sc_mem_store.specs.Kept.{Kept}
use Rattle.sc_mem_store.proofs.Holding.{holds_born}
use Rattle.sc_mem_store.proofs.Memories.{born_block, kept_is}
use Rattle.sc_mem_store.proofs.store.Store.allocate.Goals as goal

pub invariant_of-self-2 : goal.invariant_of-self-2
invariant_of-self-2 c =
    let s = c.self.inside in
    rw c.after-self-inside.ensures
    (holds_born s.history.objects s.memory c.allocate.new.self.flat s.functions c.args.size Heap c.allocate.ensures.safe c.self.invariant c.in_ok-allocate.ensures.birth)

pub returns : goal.returns
returns c =
    let s = c.self.inside in
    let n = c.args.size in
    let (k, at, class, takes, is) = c.in_ok-allocate.ensures.block in
    let few : n < 2 ^ 32 = search (rules, arith) in
    let born : c.allocate.new.self ≡ born_in n Heap None s.memory = born_block s.memory c.allocate.new.self n k at few class takes is in
    let new : Kept = record { objects = c.after-self-inside.result.objects; memory = c.allocate.new.self; functions = s.functions } in
    subst (λ (v : Kept). new ≡ record { objects = v.objects ++ fresh n Heap ∷ []; memory = born_in n Heap None v.memory; functions = v.functions }) c.self.view_is
    (kept_is new (record { objects = s.history.objects ++ fresh n Heap ∷ []; memory = born_in n Heap None s.memory; functions = s.functions }) c.after-self-inside.ensures born refl)
