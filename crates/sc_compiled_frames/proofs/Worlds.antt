-- The memory of a world goes on to hold its objects as things happen.
use Rattle.std.proofs.Common.{◌≡◌, ℕ, zero, suc, ◌+◌, ◌-◌, ◌%◌, ◌<◌, ◌≤◌, Bool, true, List, [], ◌∷◌, length, replicate, None, Some, refl, sym, ap, ◌∙◌, arith}
use Rattle.std.specs.Prelude.{⊤, option_map, slice_index_or}
use Rattle.std.specs.Option.{IsSome}
use Rattle.std.specs.List.{slice_get}
use Rattle.sc_objects.specs.declared.objects.Obj.{Obj}
use Rattle.sc_objects.specs.Blocks.{Blocks, IsTiled, class_at, free_of}
use Rattle.sc_objects.specs.Numbered.{IsClear, IsLive}
use Rattle.sc_mem.specs.Flat.{place, with_birth}
use Rattle.sc_meaning.specs.Behaviour.{Start, first_world}
use Rattle.sc_meaning.specs.Beside.{born_in, died_in, empty_memory}
use Rattle.sc_meaning.specs.Statements.{auto_kind}
use Rattle.sc_meaning.specs.World.{Birth, Death, World, pass}
use Rattle.sc_meaning.specs.declared.spot.Spot.TheVariants.{Slot}
use Rattle.sc_compiled_frames.specs.Worlds.{HoldsWords}
use Rattle.sc_compiled_frames.proofs.Living.{begins, birth_in_stack, death}

-- ---- a heap without a block
abbrev pub no_blocks : ℕ → Blocks
no_blocks heap = record { bytes = heap; used = 0; taken = []; free = replicate 29 [] }

abbrev AreEmpty : List (List ℕ) → Type 0
AreEmpty [] = ⊤
AreEmpty (r ∷ rs) = (r ≡ []) × AreEmpty rs

row_empty : (rs : List (List ℕ)) (k : ℕ) → AreEmpty rs → slice_index_or rs k [] ≡ []
row_empty [] k h = refl
row_empty (r ∷ rs) zero h = h.0
row_empty (r ∷ rs) (suc k) h = row_empty rs k h.1

all_rows : (n : ℕ) → AreEmpty (replicate n [])
all_rows zero = tt
all_rows (suc n) = (refl, all_rows n)

none_free : (heap k i base : ℕ) → slice_get (free_of (no_blocks heap) k) i ≡ Some base → ⊥
none_free heap k i base e = no (sym (ap (λ r. slice_get r i) (row_empty (replicate 29 []) k (all_rows 29))) ∙ e)
  where
    no : None ≡ Some base → ⊥
    no e = cc (e)

none_taken : (heap a j : ℕ) → class_at (no_blocks heap) a ≡ Some j → ⊥
none_taken heap a j e = cc (e)

pub tiled : (heap : ℕ) → IsTiled (no_blocks heap)
tiled heap =
    let low : 0 ≤ heap = omega arith in
    record {
      classes = refl;
      within = low;
      taken_within = λ a j e. absurd (none_taken heap a j e);
      free_within = λ k i a e. absurd (none_free heap k i a e);
      taken_apart = λ a c j k e f. absurd (none_taken heap a j e);
      mixed_apart = λ a j k i c e f. absurd (none_taken heap a j e);
      free_apart = λ j i a k l c e f. absurd (none_free heap j i a e);
    }

-- ---- a run begins, objects are born and die
pub world_begins : (s : Start) → s.beside.memory ≡ Some (empty_memory s.stack s.heap) → s.heap ≤ 67108864 → s.stack ≤ 16777216 → HoldsWords (first_world s)
world_begins s there heap stack = record { memory = empty_memory s.stack s.heap; there = there; words = begins s.beside.functions s.heap s.stack (no_blocks s.heap) heap stack refl (tiled s.heap) }

pub world_births : (w : World) (size offset : ℕ) (constant : Bool) (h : HoldsWords w) → (0x20000000 - w.used + offset) % 4 ≡ 0 → 0x1F000000 ≤ 0x20000000 - w.used + offset → IsClear h.memory.flat.objects (0x20000000 - w.used + offset) size
    → IsSome (place h.memory.flat (0x20000000 - w.used + offset) size) → length h.memory.flat.objects < 4294967294 → HoldsWords (pass (Birth size (auto_kind constant) (Slot offset)) w)
world_births w size offset constant h even up clear area few =
    let base : ℕ = 0x20000000 - w.used + offset in
    let o : Obj = record { size = size; kind = auto_kind constant; base = base; live = true } in
    record {
      memory = record { flat = with_birth h.memory.flat o; blocks = h.memory.blocks };
      there = ap (option_map (born_in size (auto_kind constant) (Some base))) h.there;
      words = birth_in_stack w.beside.functions h.memory.flat w.objects size constant base h.words even up clear area few;
    }

pub world_deaths : (w : World) (id : ℕ) (p : Obj) (h : HoldsWords w) → IsLive h.memory.flat.objects id p → HoldsWords (pass (Death id) w)
world_deaths w id p h live = record {
  memory = died_in id h.memory;
  there = ap (option_map (died_in id)) h.there;
  words = death w.beside.functions h.memory.flat w.objects id p h.words live;
}
