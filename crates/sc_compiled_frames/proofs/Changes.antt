-- A birth in the stack, and a death.
use Rattle.std.proofs.Common.{◌≡◌, inr, ℕ, ◌+◌, ◌%◌, ◌≤◌, Bool, true, false, List, [], ◌∷◌, ◌++◌, length, refl, sym, ap, ◌∙◌, arith}
use Rattle.std.specs.Option.{IsSome}
use Rattle.std.specs.Prelude.{replicate}
use Rattle.std.proofs.lemmas.List.{length-replicate}
use Rattle.sc_base.specs.declared.key.Key.{Key}
use Rattle.sc_base.specs.declared.memory.Cell.{Cell as Stored}
use Rattle.sc_base.specs.declared.memory.Cell.TheVariants.{Unwritten}
use Rattle.sc_base.specs.declared.memory.Kind.{Kind}
use Rattle.sc_base.specs.declared.memory.Kind.TheVariants as kind
use Rattle.sc_cells.proofs.Ranges.{length-with_range}
use Rattle.sc_objects.specs.Blocks.{Blocks}
use Rattle.sc_objects.specs.declared.objects.Obj.{Obj}
use Rattle.sc_objects.specs.Numbered.{IsLive, IsClear}
use Rattle.sc_mem.specs.Flat.{Flat, place, with_birth, with_death, written_at}
use Rattle.sc_mem.specs.Safe.{Store, IsSafe, Stands}
use Rattle.sc_mem.proofs.Kept.{safe-born, safe-ended}
use Rattle.sc_meaning.specs.World.{Object, object_at, fresh, ended}
use Rattle.sc_meaning.specs.Statements.{auto_kind}
use Rattle.sc_mem_store.proofs.Cells.{some-is, place-bound}
use Rattle.sc_mem_store.proofs.Holding.{holds_born, holds_ended}
use Rattle.sc_compiled_frames.specs.Words.{Held}

-- as many cells after a write as before
length_written : (s : Store) (base : ℕ) (part : List Stored) → IsSafe s → IsSome (place s.flat base (length part)) → length (written_at s.flat (place s.flat base (length part)) part).cells ≡ length s.flat.cells
length_written s base part safe some =
    let m = s.flat in
    let (i, e) = some-is (place m base (length part)) some in
    let bound : i + length part ≤ length m.cells = rw safe.sized (place-bound m.heap m.stack base (length part) i safe.heap safe.stack e) in
    ap (λ q. length (written_at m q part).cells) e ∙ length-with_range m.cells i part bound

-- an automatic object stands outside the heap
stands_outside : (b : Blocks) (k : Kind) (constant : Bool) (base size : ℕ) → b.bytes ≤ 67108864 → 0x1F000000 ≤ base → Stands b (auto_kind constant) base size
stands_outside b k true base size le up = inr (omega (arith, le, up))
stands_outside b k false base size le up = inr (omega (arith, le, up))

-- a birth in the stack
pub one_birth : (fs : List Key) (m : Flat) (os : List Object) (size : ℕ) (constant : Bool) (base : ℕ) → Held fs m os → base % 4 ≡ 0 → 0x1F000000 ≤ base → IsClear m.objects base size → IsSome (place m base size)
    → Held fs (with_birth m (record { size = size; kind = auto_kind constant; base = base; live = true })) (os ++ fresh size (auto_kind constant) ∷ [])
one_birth fs m os size constant base h even up clear area =
    let o : Obj = record { size = size; kind = auto_kind constant; base = base; live = true } in
    let st : Store = record { flat = m; blocks = h.blocks } in
    let new : Flat = with_birth m o in
    let part : List Stored = replicate size Unwritten in
    let n : length part ≡ size = length-replicate size Unwritten in
    let some : IsSome (place m base (length part)) = rw n area in
    let same : length new.cells ≡ length m.cells = ap (λ k. length (written_at m (place m base k) part).cells) (sym n) ∙ length_written st base part h.safe some in
    let le : h.blocks.bytes ≤ 67108864 = let e = h.safe.bytes in let f = h.safe.heap in omega (arith, e, f) in
    record {
      holds = holds_born os st new fs size (auto_kind constant) h.safe h.holds (base, even, clear, area, refl);
      blocks = h.blocks;
      safe = safe-born m.heap m.stack m.cells new.cells m.objects h.blocks o h.safe same clear area (stands_outside h.blocks kind.Auto constant base size le up);
    }

-- a death
pub one_death : (fs : List Key) (m : Flat) (os : List Object) (id : ℕ) (p : Obj) → Held fs m os → IsLive m.objects id p → Held fs (with_death m id) (ended os id (object_at os id))
one_death fs m os id p h live = record {
  holds = holds_ended os m fs id p h.holds live;
  blocks = h.blocks;
  safe = safe-ended m.heap m.stack m.cells m.objects h.blocks id p h.safe live;
}
