-- A block is entered and left, and a frame as a run begins.
use Rattle.std.proofs.Common.{◌≡◌, ◌≢◌, inl, inr, ℕ, zero, suc, ◌+◌, ◌-◌, ◌%◌, ◌<◌, ◌≤◌, false, List, [], ◌∷◌, ◌++◌, Some, refl, sym, subst, ◌∙◌, arith}
use Rattle.std.specs.Prelude.{slice_get}
use Rattle.sc_program.specs.declared.frame.Slot.{Slot}
use Rattle.sc_core.specs.declared.module.Auto.{Auto}
use Rattle.sc_mem.specs.Safe.{Store}
use Rattle.sc_meaning.specs.Behaviour.{Start, first_world}
use Rattle.sc_meaning.specs.Beside.{empty_memory}
use Rattle.sc_meaning.specs.Outcomes.{Done}
use Rattle.sc_meaning.specs.Statements.{all_dead, born_autos}
use Rattle.sc_meaning.specs.World.{Born, CloseBlock, OpenBlock, Stack, World, pass}
use Rattle.sc_compiled_frames.proofs.Living.{begins, nothing_there}
use Rattle.sc_compiled_frames.proofs.Worlds.{no_blocks, tiled}
use Rattle.sc_compiled_frames.specs.Frames.{Fits, Has, HasFrame, LeavesRest, entered, foot}
use Rattle.sc_compiled_frames.proofs.Framing.{all_births, all_deaths, births_rest, deaths_rest, has_front, has_or}

nothing_at : (i id : ℕ) → slice_get {X = ℕ} [] i ≡ Some id → ⊥
nothing_at i id e = cc (e)

module _ (slots : ℕ → List Slot) (cost : ℕ) (bs : List Born) (b : ℕ) (w : World) where
  -- a block without objects
  opened_empty : HasFrame slots cost bs w → HasFrame slots cost (bs ++ entered b [] ∷ []) w
  opened_empty mem = record {
    holds = mem.holds;
    low = mem.low;
    high = mem.high;
    area = mem.area;
    aligned = mem.aligned;
    only = λ id p live. elim (mem.only id p live) [
      | inl x ↦ inl x
      | inr y ↦ inr (elim y [ inl z ↦ inl z | inr q ↦ inr (record { of = q.of; open_there = has_front q.of bs (entered b []) q.open_there; index = q.index; slot = q.slot; numbered = q.numbered; slotted = q.slotted; base = q.base; size = q.size }) ])
    ];
    lives = λ o h i id e. elim (has_or o bs (entered b []) h) [
      | inl a ↦ mem.lives o a i id e
      | inr q ↦ absurd (nothing_at i id (subst (λ (y : Born). slice_get y.ids i ≡ Some id) q e))
    ];
  }

  closed_empty : HasFrame slots cost (bs ++ entered b [] ∷ []) w → HasFrame slots cost bs w
  closed_empty mem = record {
    holds = mem.holds;
    low = mem.low;
    high = mem.high;
    area = mem.area;
    aligned = mem.aligned;
    only = λ id p live. elim (mem.only id p live) [
      | inl x ↦ inl x
      | inr y ↦ inr (elim y [
        | inl z ↦ inl z
        | inr q ↦ inr (elim (has_or q.of bs (entered b []) q.open_there) [
          | inl a ↦ record { of = q.of; open_there = a; index = q.index; slot = q.slot; numbered = q.numbered; slotted = q.slotted; base = q.base; size = q.size }
          | inr e ↦ absurd (nothing_at q.index id (subst (λ (y : Born). slice_get y.ids q.index ≡ Some id) e q.numbered))
        ])
      ])
    ];
    lives = λ o h i id e. mem.lives o (has_front o bs (entered b []) h) i id e;
  }

-- that a block is open, and is no longer, is told of the call alone
module _ (slots : ℕ → List Slot) (cost : ℕ) (bs : List Born) (w : World) (mem : HasFrame slots cost bs w) where
  told_open : (x : Born) → HasFrame slots cost bs (pass (OpenBlock x) w)
  told_open x = record {
    holds = record { memory = mem.holds.memory; there = mem.holds.there; words = mem.holds.words };
    low = mem.low;
    high = mem.high;
    area = mem.area;
    aligned = mem.aligned;
    only = mem.only;
    lives = mem.lives;
  }

  told_closed : HasFrame slots cost bs (pass CloseBlock w)
  told_closed = record {
    holds = record { memory = mem.holds.memory; there = mem.holds.there; words = mem.holds.words };
    low = mem.low;
    high = mem.high;
    area = mem.area;
    aligned = mem.aligned;
    only = mem.only;
    lives = mem.lives;
  }

pub block_entered : (slots : ℕ → List Slot) (cost : ℕ) → Fits slots cost → (bs : List Born) (b : ℕ) → ((o : Born) → Has o bs → o.block ≢ b) → (autos : List Auto) → ((j : ℕ) (x : Auto) → slice_get autos j ≡ Some x → slice_get (slots b) j ≡ Some x.slot)
    → (ids : List ℕ) (w v : World) → HasFrame slots cost bs w → born_autos autos [] w ≡ Done ids v → HasFrame slots cost (bs ++ entered b ids ∷ []) (pass (OpenBlock (entered b ids)) v)
block_entered slots cost fits bs b other autos table ids w v mem born =
    let rest : (j : ℕ) (x : Auto) → slice_get autos j ≡ Some x → slice_get (slots b) (0 + j) ≡ Some x.slot = λ j x e. let n : j ≡ 0 + j = omega arith in subst (λ k. slice_get (slots b) k ≡ Some x.slot) n (table j x e) in
    told_open slots cost (bs ++ entered b ids ∷ []) v (all_births slots cost fits bs b other autos [] ids w v (opened_empty slots cost bs b w mem) rest born) (entered b ids)

pub block_left : (slots : ℕ → List Slot) (cost : ℕ) → Fits slots cost → (bs : List Born) (b : ℕ) → ((o : Born) → Has o bs → o.block ≢ b) → (ids : List ℕ) (w : World) → HasFrame slots cost (bs ++ entered b ids ∷ []) w → HasFrame slots cost bs (pass CloseBlock (all_dead ids w))
block_left slots cost fits bs b other ids w mem =
    told_closed slots cost bs (all_dead ids w) (closed_empty slots cost bs b (all_dead ids w) (all_deaths slots cost fits bs b other [] ids w mem))

-- ---- what is left as it was

pub births_leave : (slots : ℕ → List Slot) (cost : ℕ) → Fits slots cost → (bs : List Born) (b : ℕ) → ((o : Born) → Has o bs → o.block ≢ b) → (autos : List Auto) → ((j : ℕ) (x : Auto) → slice_get autos j ≡ Some x → slice_get (slots b) j ≡ Some x.slot)
    → (depth : ℕ) → ((i : ℕ) (s : Slot) → slice_get (slots b) i ≡ Some s → s.offset + s.size ≤ depth) → (ids : List ℕ) (w v : World) → HasFrame slots cost bs w → born_autos autos [] w ≡ Done ids v
    → (x y : Store) → w.beside.memory ≡ Some x → v.beside.memory ≡ Some y → LeavesRest (foot w + depth) (foot w + cost) x y
births_leave slots cost fits bs b other autos table depth deep ids w v mem born x y xs ys =
    let rest : (j : ℕ) (x : Auto) → slice_get autos j ≡ Some x → slice_get (slots b) (0 + j) ≡ Some x.slot = λ j x e. let n : j ≡ 0 + j = omega arith in subst (λ k. slice_get (slots b) k ≡ Some x.slot) n (table j x e) in
    births_rest slots cost fits bs b other depth deep autos [] ids w v (opened_empty slots cost bs b w mem) rest born x y xs ys

pub deaths_leave : (slots : ℕ → List Slot) (cost : ℕ) → Fits slots cost → (bs : List Born) (b : ℕ) → ((o : Born) → Has o bs → o.block ≢ b) → (ids : List ℕ) (w : World) → HasFrame slots cost (bs ++ entered b ids ∷ []) w
    → (x y : Store) → w.beside.memory ≡ Some x → (all_dead ids w).beside.memory ≡ Some y → LeavesRest 0 (foot w + cost) x y
deaths_leave slots cost fits bs b other ids w mem x y xs ys = deaths_rest slots cost fits bs b other [] ids w mem x y xs ys

-- ---- the first frame of a run

pub first_frame : (slots : ℕ → List Slot) (cost : ℕ) (s : Start) → s.beside.memory ≡ Some (empty_memory s.stack s.heap) → s.heap ≤ 67108864 → s.stack ≤ 16777216 → cost ≤ s.stack → cost % 4 ≡ 0 → HasFrame slots cost [] (pass (Stack cost) (first_world s))
first_frame slots cost s there heap stack le four =
    let low : 0x1F000000 ≤ 0x20000000 - cost = omega (arith, le, stack) in
    let high : 0x20000000 - cost + cost ≤ 0x20000000 = omega (arith, le, stack) in
    let area : 0x20000000 - s.stack ≤ 0x20000000 - cost = omega (arith, le) in
    let aligned : (0x20000000 - cost) % 4 ≡ 0 = omega (arith, le, stack, four) in
    record {
      holds = record { memory = empty_memory s.stack s.heap; there = there; words = begins s.beside.functions s.heap s.stack (no_blocks s.heap) heap stack refl (tiled s.heap) };
      low = low;
      high = high;
      area = area;
      aligned = aligned;
      only = λ id p live. absurd (nothing_there id p live.0);
      lives = λ o has i id e. absurd has;
    }

-- ---- slots that fit: one object of four bytes, in a frame of sixteen
abbrev one_slot : Slot
one_slot = record { offset = 0; size = 4; constant = false }

abbrev one_block : ℕ → List Slot
one_block zero = one_slot ∷ []
one_block (suc b) = []

only_one : (P : Slot → Type 0) (b i : ℕ) (s : Slot) → P one_slot → slice_get (one_block b) i ≡ Some s → P s
only_one P zero zero s p e = let is : one_slot ≡ s = cc (e) in subst P is p
only_one P zero (suc i) s p e = absurd (cc (e))
only_one P (suc b) i s p e = absurd (cc (e))

one_place : (b i : ℕ) (s : Slot) → slice_get (one_block b) i ≡ Some s → (b ≡ 0) × (i ≡ 0)
one_place zero zero s e = (refl, refl)
one_place zero (suc i) s e = absurd (cc (e))
one_place (suc b) i s e = absurd (cc (e))

pub one_fits : (slots : ℕ → List Slot) × (s : Slot) × Fits slots 16 × (slice_get (slots 0) 0 ≡ Some s)
one_fits = (
  one_block,
  one_slot,
  record {
    inside = λ b i s e. only_one (λ x. x.offset + x.size < 16) b i s (omega arith) e;
    even = λ b i s e. only_one (λ x. x.offset % 4 ≡ 0) b i s refl e;
    apart = λ b c i j s t e f d.
        let p = one_place b i s e in
        let q = one_place c j t f in
        elim d [ inl n ↦ absurd (n (p.0 ∙ sym q.0)) | inr n ↦ absurd (n (p.1 ∙ sym q.1)) ];
  },
  refl,
)
