-- How memory stays safe.
use Rattle.std.proofs.Common.{◌≡◌, inl, inr, ℕ, zero, suc, ◌-◌, ◌≤◌, List, [], length, refl, ap, ◌∙◌, Option, Some, None, Result, Ok, Err}
use Rattle.std.specs.Option.{IsSome}
use Rattle.std.specs.Prelude.{MatchResult}
use Rattle.sc_base.specs.declared.NoMemory.{NoMemory}
use Rattle.sc_base.specs.declared.memory.Cell.{Cell}
use Rattle.sc_base.specs.declared.memory.Kind.{Kind}
use Rattle.sc_base.specs.declared.memory.Kind.TheVariants.{Static, Const, Literal, Auto, Heap}
use Rattle.sc_objects.specs.declared.objects.Obj.{Obj}
use Rattle.sc_objects.specs.Numbered.{IsLive, IsClear, born, ended}
use Rattle.sc_objects.specs.Blocks.{Blocks, IsClass, IsTiled, Takes, class_at}
use Rattle.sc_objects.proofs.Births.{object-born, apart-born, live-ended, apart-ended}
use Rattle.sc_mem.specs.Flat.{place_in}
use Rattle.sc_mem.specs.Safe.{Stands, IsSafe, store_of}

pub safe-born : (heap stack : ℕ) (cells now : List Cell) (objects : List Obj) (b : Blocks) (o : Obj) → IsSafe (store_of heap stack cells objects b) → length now ≡ length cells → IsClear objects o.base o.size → IsSome (place_in heap stack o.base o.size) → Stands b o.kind o.base o.size → IsSafe (store_of heap stack now (born objects o) b)
safe-born heap stack cells now objects b o s size clear area stands = record {
  heap = s.heap;
  stack = s.stack;
  sized = size ∙ s.sized;
  bytes = s.bytes;
  apart = apart-born objects o s.apart clear;
  within = λ id p h. elim (object-born objects o id p h.0) [ inl a ↦ s.within id p (a, h.1) | inr a ↦ rw a.1 area ];
  stands = λ id p h. elim (object-born objects o id p h.0) [ inl a ↦ s.stands id p (a, h.1) | inr a ↦ rw a.1 stands ];
  tiled = s.tiled;
}

pub safe-ended : (heap stack : ℕ) (cells : List Cell) (objects : List Obj) (b : Blocks) (id : ℕ) (o : Obj) → IsSafe (store_of heap stack cells objects b) → IsLive objects id o → IsSafe (store_of heap stack cells (ended objects id) b)
safe-ended heap stack cells objects b id o s l = record {
  heap = s.heap;
  stack = s.stack;
  sized = s.sized;
  bytes = s.bytes;
  apart = apart-ended objects id o l.0 s.apart;
  within = λ other p h. s.within other p (live-ended objects id o l.0 other p h).1;
  stands = λ other p h. s.stands other p (live-ended objects id o l.0 other p h).1;
  tiled = s.tiled;
}

pub stands-change : (b now : Blocks) (kind : Kind) (base size : ℕ) → now.bytes ≡ b.bytes → ((k : ℕ) → 0x10000000 ≤ base → kind ≡ Heap → class_at b (base - 0x10000000) ≡ Some k → class_at now (base - 0x10000000) ≡ Some k) → Stands b kind base size → Stands now kind base size
stands-change b now Static base size e keep h = elim h [ inl l ↦ inl l | inr l ↦ inr (rw e l) ]
stands-change b now Const base size e keep h = elim h [ inl l ↦ inl l | inr l ↦ inr (rw e l) ]
stands-change b now Literal base size e keep h = elim h [ inl l ↦ inl l | inr l ↦ inr (rw e l) ]
stands-change b now Auto base size e keep h = elim h [ inl l ↦ inl l | inr l ↦ inr (rw e l) ]
stands-change b now Heap base size e keep h = (h.0, (h.1.0, keep h.1.0 h.0 refl h.1.1, h.1.2))

pub safe-blocks : (heap stack : ℕ) (cells : List Cell) (objects : List Obj) (b now : Blocks) → IsSafe (store_of heap stack cells objects b) → IsTiled now → now.bytes ≡ b.bytes → ((id : ℕ) (o : Obj) (k : ℕ) → IsLive objects id o → o.kind ≡ Heap → 0x10000000 ≤ o.base → class_at b (o.base - 0x10000000) ≡ Some k → class_at now (o.base - 0x10000000) ≡ Some k) → IsSafe (store_of heap stack cells objects now)
safe-blocks heap stack cells objects b now s tiled e keep = record {
  heap = s.heap;
  stack = s.stack;
  sized = s.sized;
  bytes = e ∙ s.bytes;
  apart = s.apart;
  within = s.within;
  stands = λ id o h. stands-change b now o.kind o.base o.size e (λ k low kind there. keep id o k h kind low there) (s.stands id o h);
  tiled = tiled;
}

pub takes-bytes : (old new : Blocks) (k : ℕ) (got : Option ℕ) → Takes old k got new → new.bytes ≡ old.bytes
takes-bytes old new k None h = ap (λ (b : Blocks). b.bytes) h.2
takes-bytes old new k (Some base) h = elim h [ inl f ↦ ap (λ (b : Blocks). b.bytes) f.2 | inr f ↦ ap (λ (b : Blocks). b.bytes) f.3 ]

pub taken-bytes : (r : Result (Option ℕ) NoMemory) (n : ℕ) (old new : Blocks) → MatchResult r (λ (got : Option ℕ). (k : ℕ) × IsClass n k × Takes old k got new) (λ _. new ≡ old) → new.bytes ≡ old.bytes
taken-bytes (Ok got) n old new h = takes-bytes old new h.0 got h.2
taken-bytes (Err e) n old new h = ap (λ (b : Blocks). b.bytes) h

pub clear-none : (base size : ℕ) → IsClear [] base size
clear-none base size zero o h = absurd (cc (h.0))
clear-none base size (suc k) o h = absurd (cc (h.0))
