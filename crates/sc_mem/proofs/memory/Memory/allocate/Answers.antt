use Rattle.std.proofs.Common.{rules, ◌≡◌, ℕ, ◌+◌, ◌%◌, true, ap, sym, subst, ◌∙◌, Option, Some, None}
use Rattle.std.specs.Option.{IsSome}
use Rattle.sc_base.specs.declared.memory.Kind.TheVariants.{Heap}
use Rattle.sc_objects.specs.declared.objects.Obj.{Obj}
use Rattle.sc_objects.specs.Numbered.{IsClear}
use Rattle.sc_mem.specs.Flat.{Flat, place, with_birth}
use Rattle.sc_objects.specs.Blocks.{Blocks, IsClass, Takes}
use Rattle.sc_mem.specs.Safe.{IsReady, TakesAt}
use Rattle.sc_mem.proofs.memory.Memory.allocate.Goals as goal

pub returns-in-Ok-clause-birth : goal.returns-in-Ok-clause-birth
returns-in-Ok-clause-birth c =
    let base = c.in-Some.base in
    let n = c.args.size in
    let o : Obj = record { size = n; kind = Heap; base = base; live = true } in
    let ready : IsReady c.take.new.self base n = rw c.in-Some.is at c.in_ok-base.ensures.ready in
    let four : base % 4 ≡ 0 = search rules in
    let same = c.take.ensures.flat in
    (base, four, subst (λ (m : Flat). IsClear m.objects base n) same ready.clear, subst (λ (m : Flat). IsSome (place m base n)) same ready.area, c.in-Ok.ensures.birth.0 ∙ ap (λ (m : Flat). with_birth m o) same)

block-found : (old new : Blocks) (n base : ℕ) → TakesAt old n (Some base) new → (k place : ℕ) × IsClass n k × Takes old k (Some place) new × (base ≡ 0x10000000 + place)
block-found old new n base (k, None, class, takes, is) = absurd (cc)
block-found old new n base (k, Some place, class, takes, is) = (k, place, class, takes, let x : Some base ≡ Some (0x10000000 + place) = is in cc)

pub returns-in-Ok-clause-block : goal.returns-in-Ok-clause-block
returns-in-Ok-clause-block c =
    let n = c.args.size in
    let base = c.in-Some.base in
    let old = c.args.self.now in
    let taken : TakesAt old.blocks n (Some base) c.take.new.self.blocks = rw c.in-Some.is at c.in_ok-base.ensures.taken in
    let (k, place, class, takes, is) = block-found old.blocks c.take.new.self.blocks n base taken in
    let same = c.take.ensures.flat in (
      k,
      place,
      class,
      subst (λ (b : Blocks). Takes old.blocks k (Some place) b) (sym c.in-Ok.ensures.birth.1) takes,
      c.in-Ok.ensures.birth.0 ∙ (ap (λ (m : Flat). with_birth m (record { size = n; kind = Heap; base = base; live = true })) same ∙ ap (λ b. with_birth old.flat (record { size = n; kind = Heap; base = b; live = true })) is),
    )
