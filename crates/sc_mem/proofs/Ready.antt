-- Blocks in which an object can be born, and blocks that can be given back.
use Rattle.std.proofs.Common.{◌≡◌, ◌⊎◌, inl, inr, ℕ, ◌+◌, ◌-◌, ◌<◌, ◌≤◌, List, length, refl, sym, ap, subst, ◌∙◌, Option, Some, None, Result, Ok, Err, arith}
use Rattle.std.proofs.lemmas.Bool.Decides.{nat_tests}
use Rattle.std.specs.Option.{IsSome}
use Rattle.std.specs.Prelude.{MatchResult, IfOk, IfSome}
use Rattle.sc_base.specs.declared.NoMemory.{NoMemory}
use Rattle.sc_base.specs.declared.memory.Cell.{Cell}
use Rattle.sc_base.specs.declared.memory.Kind.{Kind}
use Rattle.sc_base.specs.declared.memory.Kind.TheVariants.{Static, Const, Literal, Auto, Heap}
use Rattle.sc_objects.specs.declared.objects.Obj.{Obj}
use Rattle.sc_objects.specs.Numbered.{IsLive, ended}
use Rattle.sc_objects.specs.Blocks.{Blocks, Disjoint, IsClass, IsTiled, Takes, block_size, class_at}
use Rattle.sc_objects.proofs.Births.{live-ended}
use Rattle.sc_objects.proofs.Lists.{slice_get-last}
use Rattle.sc_mem.specs.Flat.{place_in}
use Rattle.sc_mem.specs.Safe.{Stands, IsSafe, IsReady, IsReleased, store_of}
use Rattle.sc_mem.proofs.Kept.{takes-bytes}

-- where the start of one block of the heap is, of another's, and an object's end
pub from-heap : (base place : ℕ) → 0x10000000 ≤ base → base - 0x10000000 ≡ place → base ≡ 0x10000000 + place
from-heap base place low e = omega arith

-- a block that is taken overlaps none that was
pub apart-taken : (old new : Blocks) (k place a j : ℕ) → IsTiled old → Takes old k (Some place) new → class_at old a ≡ Some j → Disjoint a j place k
apart-taken old new k place a j t (inl f) there = t.mixed_apart a j k (length f.0) place there (rw f.1 (slice_get-last f.0 place))
apart-taken old new k place a j t (inr f) there = let w = t.taken_within a j there in inl (omega arith)

-- an object that stands in another block, or outside the heap, is not in this one
pub outside-block : (b : Blocks) (kind : Kind) (base size place k : ℕ) → place + block_size k ≤ b.bytes → ((j : ℕ) → class_at b (base - 0x10000000) ≡ Some j → kind ≡ Heap → 0x10000000 ≤ base → Disjoint (base - 0x10000000) j place k) → Stands b kind base size → (base + size < 0x10000000 + place) ⊎ (0x10000000 + place + block_size k ≤ base)
outside-block b Static base size place k w h s = elim s [ inl l ↦ inl (omega arith) | inr l ↦ inr (omega arith) ]
outside-block b Const base size place k w h s = elim s [ inl l ↦ inl (omega arith) | inr l ↦ inr (omega arith) ]
outside-block b Literal base size place k w h s = elim s [ inl l ↦ inl (omega arith) | inr l ↦ inr (omega arith) ]
outside-block b Auto base size place k w h s = elim s [ inl l ↦ inl (omega arith) | inr l ↦ inr (omega arith) ]
outside-block b Heap base size place k w h s =
    let low = s.0 in
    let fits = s.1.2 in
    elim (h s.1.0 s.1.1 refl s.0) [ inl l ↦ inl (omega arith) | inr l ↦ inr (omega arith) ]

pub heap-place : (heap stack place n : ℕ) → heap ≤ 67108864 → place + n ≤ heap → IsSome (place_in heap stack (0x10000000 + place) n)
heap-place heap stack place n h w = grind (arith, nat_tests)

pub ready-taken : (heap stack : ℕ) (cells : List Cell) (objects : List Obj) (old new : Blocks) (n k place : ℕ) → IsSafe (store_of heap stack cells objects old) → IsTiled new → IsClass n k → Takes old k (Some place) new → class_at new place ≡ Some k → IsReady (store_of heap stack cells objects new) (0x10000000 + place) n
ready-taken heap stack cells objects old new n k place s t class takes here =
    let same = takes-bytes old new k (Some place) takes in
    let bytes = s.bytes in
    let w = (t.taken_within place k here).1 in
    let u = t.within in
    let least : n + 1 ≤ block_size k = class.0 in
    let small : n < block_size k = omega arith in
    let most = s.heap in
    let at : 0x10000000 + place - 0x10000000 ≡ place = omega arith in
    let there : class_at new (0x10000000 + place - 0x10000000) ≡ Some k = rw at here in
    let inside : place + block_size k ≤ old.bytes = omega arith in
    let out : (id : ℕ) (o : Obj) → IsLive objects id o → (o.base + o.size < 0x10000000 + place) ⊎ (0x10000000 + place + block_size k ≤ o.base) =
    λ id o live. outside-block old o.kind o.base o.size place k inside (λ j other kind low. apart-taken old new k place (o.base - 0x10000000) j s.tiled takes other) (s.stands id o live) in
    record {
      clear = λ id o live. elim (out id o live) [ inl l ↦ inl l | inr l ↦ inr (omega arith) ];
      area = heap-place heap stack place n most (omega arith);
      stands = (omega arith, (k, there, small));
      bare = λ j id o other live. (let same_class : j ≡ k = (let e : Some j ≡ Some k = sym other ∙ there in cc) in rw same_class (out id o live));
    }

pub released-ended : (heap stack : ℕ) (cells : List Cell) (objects : List Obj) (b : Blocks) (id : ℕ) (o : Obj) → IsSafe (store_of heap stack cells objects b) → IsLive objects id o → o.kind ≡ Heap → IsReleased (store_of heap stack cells (ended objects id) b) o.base
released-ended heap stack cells objects b id o s live kind =
    let stands : Stands b Heap o.base o.size = subst (λ (x : Kind). Stands b x o.base o.size) kind (s.stands id o live) in
    let place = o.base - 0x10000000 in
    let at : 0x10000000 + place ≡ o.base = (let low = stands.0 in omega arith) in
    record {
      heap = stands.0;
      taken = rw stands.1.1 refl;
      bare = λ k other p there found.
          let old = live-ended objects id o live.0 other p found in
          let clash = s.apart other id p o old.1 live old.0 in
          let w = (s.tiled.taken_within place k there).1 in
          let u = s.tiled.within in
          let inside : place + block_size k ≤ b.bytes = omega arith in
          let out = outside-block b p.kind p.base p.size place k inside
          (λ j here heap low. elim (s.tiled.taken_apart (p.base - 0x10000000) place j k here there) [
            | inl e ↦ absurd (let high = stands.0 in let e' : p.base - 0x10000000 ≡ o.base - 0x10000000 = e in elim clash [ inl l ↦ omega arith | inr l ↦ omega arith ])
            | inr l ↦ l
          ]) (s.stands other p old.1) in
          subst (λ (x : ℕ). (p.base + p.size < x) ⊎ (x + block_size k ≤ p.base)) at out;
    }

pub ready-found : (heap stack : ℕ) (cells : List Cell) (objects : List Obj) (old new : Blocks) (n : ℕ) (r : Result (Option ℕ) NoMemory) → IsSafe (store_of heap stack cells objects old) → IsTiled new → MatchResult r (λ (got : Option ℕ). (k : ℕ) × IsClass n k × Takes old k got new) (λ _. new ≡ old) → IfOk r (λ (got : Option ℕ). IfSome got (λ place. (k : ℕ) × IsClass n k × (class_at new place ≡ Some k))) → IfOk r (λ (got : Option ℕ). IfSome got (λ place. IsReady (store_of heap stack cells objects new) (0x10000000 + place) n))
ready-found heap stack cells objects old new n (Err e) s t h c = tt
ready-found heap stack cells objects old new n (Ok None) s t h c = tt
ready-found heap stack cells objects old new n (Ok (Some place)) s t h c =
    let up = h.1.1 c.0 c.1.0 in
    let down = c.1.1 h.0 h.1.0 in
    let same : c.0 ≡ h.0 = omega arith in
    ready-taken heap stack cells objects old new n h.0 place s t h.1 h.2 (c.2 ∙ ap Some same)
