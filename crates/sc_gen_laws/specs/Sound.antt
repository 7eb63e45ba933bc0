-- Yardstick: to be compared with what it restates (docs/TRUST.md).
-- Which frame tables are sound.
use Rattle.std.specs.Prelude.{◌≡◌, ℕ, ◌+◌, ◌-◌, ◌%◌, ◌≤◌, ◌==◌, nat_lt, Bool, true, ◌&&◌, ◌||◌, List, [], ◌∷◌, flat_map}
use Rattle.std.specs.List.{list_all}
use Rattle.sc_program.specs.declared.frame.Slot.{Slot}
use Rattle.sc_object.specs.declared.object.BlockTable.{BlockTable}
use Rattle.sc_object.specs.declared.object.FrameTable.{FrameTable}

-- the bytes from one offset through its end are apart from those of the other
abbrev pub apart : Slot → Slot → Bool
apart a b = nat_lt (a.offset + a.size) b.offset || nat_lt (b.offset + b.size) a.offset

abbrev pub all_apart : List Slot → Bool
all_apart [] = true
all_apart (s ∷ ss) = list_all (apart s) ss && all_apart ss

abbrev pub slots_of : FrameTable → List Slot
slots_of t = flat_map (λ b. b.slots) t.blocks

-- block 0 holds the parameters
abbrev pub parameters_of : List BlockTable → List Slot
parameters_of [] = []
parameters_of (b ∷ bs) = b.slots

abbrev pub is_small : Slot → Bool
is_small s = s.size == 1 || s.size == 2 || s.size == 4

abbrev pub is_aligned : Slot → Bool
is_aligned s = s.offset % 4 == 0

abbrev pub is_inside : ℕ → Slot → Bool
is_inside cost s = nat_lt (s.offset + s.size) (cost - 8)

-- The cost is a multiple of 16 and at most 16,777,216; offsets are multiples of 4; parameters are scalars; the slots are pairwise apart,
-- and lie below the two saved registers.
pub record IsSound (t : FrameTable) : Type 0 where
  pub rounded : t.cost % 16 ≡ 0
  pub small : t.cost ≤ 16777216
  pub aligned : list_all is_aligned (slots_of t) ≡ true
  pub scalars : list_all is_small (parameters_of t.blocks) ≡ true
  pub inside : list_all (is_inside t.cost) (slots_of t) ≡ true
  pub separate : all_apart (slots_of t) ≡ true
