-- Inside: plumbing, a representation, an invariant or a promise beside the claim (docs/TRUST.md).
-- The frame of a compiled call in the memory of a world: the objects of its open blocks stand in their slots, and no other live object is in it.
use Rattle.std.specs.Prelude.{◌≡◌, ◌≢◌, ◌⊎◌, ℕ, ◌+◌, ◌-◌, ◌%◌, ◌<◌, ◌≤◌, List, [], ◌∷◌, slice_get, Some}
use Rattle.sc_base.specs.declared.memory.Word.{Word}
use Rattle.sc_program.specs.declared.frame.Slot.{Slot}
use Rattle.sc_objects.specs.declared.objects.Obj.{Obj}
use Rattle.sc_objects.specs.Numbered.{IsLive, object_of}
use Rattle.sc_mem.specs.Flat.{cell_at}
use Rattle.sc_mem.specs.Safe.{Store}
use Rattle.sc_mem_store.specs.Living.{IsBare}
use Rattle.sc_meaning.specs.Beside.{kept_in, with_memory}
use Rattle.sc_meaning.specs.World.{Born, World}
use Rattle.sc_compiled_frames.specs.Worlds.{HoldsWords}

-- slots of blocks fit a frame, and no two have a byte or an end in common
pub record Fits (slots : ℕ → List Slot) (cost : ℕ) : Type 0 where
  pub inside : (b i : ℕ) (s : Slot) → slice_get (slots b) i ≡ Some s → s.offset + s.size < cost
  pub even : (b i : ℕ) (s : Slot) → slice_get (slots b) i ≡ Some s → s.offset % 4 ≡ 0
  pub apart : (b c i j : ℕ) (s t : Slot) → slice_get (slots b) i ≡ Some s → slice_get (slots c) j ≡ Some t → (b ≢ c) ⊎ (i ≢ j) → (s.offset + s.size < t.offset) ⊎ (t.offset + t.size < s.offset)

-- the address of the stack's first byte that is used
abbrev pub foot : World → ℕ
foot w = 0x20000000 - w.used

abbrev pub Has : Born → List Born → Type 0
Has o [] = ⊥
Has o (b ∷ bs) = (o ≡ b) ⊎ Has o bs

abbrev pub entered : ℕ → List ℕ → Born
entered b ids = record { block = b; ids = ids }

-- an object is one of an open block, in its slot
pub record IsOpen (slots : ℕ → List Slot) (blocks : List Born) (sp id : ℕ) (p : Obj) : Type 0 where
  pub of : Born
  pub open_there : Has of blocks
  pub index : ℕ
  pub slot : Slot
  pub numbered : slice_get of.ids index ≡ Some id
  pub slotted : slice_get (slots of.block) index ≡ Some slot
  pub base : p.base ≡ sp + slot.offset
  pub size : p.size ≡ slot.size

-- where the object of an open block stands
pub record Placed (slots : ℕ → List Slot) (sp : ℕ) (table : List Obj) (block index id : ℕ) : Type 0 where
  pub object : Obj
  pub slot : Slot
  pub live : IsLive table id object
  pub slotted : slice_get (slots block) index ≡ Some slot
  pub base : object.base ≡ sp + slot.offset
  pub size : object.size ≡ slot.size

-- The frame is the lowest part of the stack that is used.
pub record HasFrame (slots : ℕ → List Slot) (cost : ℕ) (blocks : List Born) (w : World) : Type 0 where
  pub holds : HoldsWords w
  pub low : 0x1F000000 ≤ foot w
  pub high : foot w + cost ≤ 0x20000000
  pub area : 0x20000000 - holds.memory.flat.stack ≤ foot w
  pub aligned : foot w % 4 ≡ 0
  pub only : (id : ℕ) (p : Obj) → IsLive holds.memory.flat.objects id p → (p.base + p.size < foot w) ⊎ ((foot w + cost ≤ p.base) ⊎ IsOpen slots blocks (foot w) id p)
  pub lives : (o : Born) → Has o blocks → (i id : ℕ) → slice_get o.ids i ≡ Some id → Placed slots (foot w) holds.memory.flat.objects o.block i id

-- What births and deaths in a frame leave: each object where it stands, those above the frame as live as they were, and from one address on what stands
-- beside all objects.
pub record LeavesRest (bound top : ℕ) (old new : Store) : Type 0 where
  pub objects : (id : ℕ) (p : Obj) → object_of old.flat.objects id ≡ Some p → (q : Obj) × (object_of new.flat.objects id ≡ Some q) × (q.base ≡ p.base) × (q.size ≡ p.size)
  pub lives : (id : ℕ) (p : Obj) → top ≤ p.base → IsLive old.flat.objects id p → IsLive new.flat.objects id p
  pub only : (id : ℕ) (p : Obj) → top ≤ p.base + p.size → IsLive new.flat.objects id p → IsLive old.flat.objects id p
  pub bare : (at : ℕ) → bound ≤ at → IsBare old.flat.objects at → IsBare new.flat.objects at
  pub cells : (at : ℕ) → bound ≤ at → cell_at new.flat at ≡ cell_at old.flat at
  pub stack : new.flat.stack ≡ old.flat.stack

-- four bytes at an offset of the frame are below all slots
abbrev pub IsBelow : (ℕ → List Slot) → ℕ → Type 0
IsBelow slots t = (b i : ℕ) (s : Slot) → slice_get (slots b) i ≡ Some s → t + 4 ≤ s.offset

-- compiled code stores a word beside all objects
abbrev pub waiting : ℕ → Word → World → World
waiting at x w = record w { beside = with_memory (kept_in at 4 x) w.beside }
