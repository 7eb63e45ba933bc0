-- A frame stays where its objects and those above stay.
use Rattle.std.proofs.Common.{◌≡◌, ◌⊎◌, inl, inr, ℕ, zero, suc, ◌+◌, ◌-◌, ◌%◌, ◌<◌, ◌≤◌, List, [], ◌∷◌, Some, sym, ap, subst, arith}
use Rattle.std.specs.Prelude.{slice_get}
use Rattle.sc_program.specs.declared.frame.Slot.{Slot}
use Rattle.sc_objects.specs.declared.objects.Obj.{Obj}
use Rattle.sc_objects.specs.Numbered.{IsLive}
use Rattle.sc_meaning.specs.World.{Born, World}
use Rattle.sc_mixed.specs.declared.calls.Lower.{Lower}
use Rattle.sc_mixed.specs.declared.calls.Lower.TheVariants.{InBodies, InCode}
use Rattle.sc_compiled_frames.specs.Worlds.{HoldsWords}
use Rattle.sc_compiled_frames.specs.Frames.{Fits, Has, HasFrame, IsOpen, Placed, foot}
use Rattle.sc_compiled_expressions.specs.Standing.{AreOver, StaysAbove, area_in, table, table_in}

either_way : (a b : ℕ) → (a < b) ⊎ (b ≤ a)
either_way a zero = inr (omega arith)
either_way zero (suc b) = inl (omega arith)
either_way (suc a) (suc b) = elim (either_way a b) [
  | inl lt ↦ inl (omega (arith, lt))
  | inr le ↦ inr (omega (arith, le))
]

pub higher_stays : (low high : ℕ) (w y : World) → low ≤ high → StaysAbove low w y → StaysAbove high w y
higher_stays low high w y le p = record {
  lives = λ id o l ge lt. p.lives id o l (omega (arith, le, ge)) lt;
  only = λ id o l ge lt. p.only id o l (omega (arith, le, ge)) lt;
  area = p.area;
}

pub lower_over : (ls : List Lower) (high low : ℕ) → low ≤ high → AreOver ls high → AreOver ls low
lower_over [] high low le p = tt
lower_over (InBodies cs sp depth ∷ ls) high low le p = lower_over ls high low le p
lower_over (InCode r given ∷ ls) high low le p = (let first = p.0 in omega (arith, le, first), lower_over ls high low le p.1)

module _ (slots : ℕ → List Slot) (cost : ℕ) (blocks : List Born) (w y : World) (f : HasFrame slots cost blocks w) (fits : Fits slots cost) (holds_now : HoldsWords y) (same : foot y ≡ foot w) (stays : StaysAbove (foot w) w y) where
  live_now : (id : ℕ) (p : Obj) → IsLive (table y) id p → IsLive holds_now.memory.flat.objects id p
  live_now id p l = subst (λ o. IsLive (table_in o) id p) holds_now.there l

  live_then : (id : ℕ) (p : Obj) → IsLive f.holds.memory.flat.objects id p → IsLive (table w) id p
  live_then id p l = subst (λ o. IsLive (table_in o) id p) (sym f.holds.there) l

  from_now : (id : ℕ) (p : Obj) → IsLive holds_now.memory.flat.objects id p → IsLive (table y) id p
  from_now id p l = subst (λ o. IsLive (table_in o) id p) (sym holds_now.there) l

  from_then : (id : ℕ) (p : Obj) → IsLive (table w) id p → IsLive f.holds.memory.flat.objects id p
  from_then id p l = subst (λ o. IsLive (table_in o) id p) f.holds.there l

  abbrev IsThere : ℕ → ℕ → Obj → Type 0
  IsThere sp id p = (p.base + p.size < sp) ⊎ ((sp + cost ≤ p.base) ⊎ IsOpen slots blocks sp id p)

  only_there : (id : ℕ) (p : Obj) → IsLive holds_now.memory.flat.objects id p → IsThere (foot w) id p
  only_there id p l = elim (either_way (p.base + p.size) (foot w)) [
    | inl below ↦ inl below
    | inr above ↦ elim (either_way p.base 0x20000000) [
      | inl in_stack ↦ f.only id p (from_then id p (stays.only id p (from_now id p l) above in_stack))
      | inr beyond ↦ inr (inl (let high = f.high in omega (arith, high, beyond)))
    ]
  ]

  in_slot : (sp base offset size : ℕ) → base ≡ sp + offset → offset + size < cost → sp + cost ≤ 0x20000000 → (sp ≤ base) × (base < 0x20000000)
  in_slot sp base offset size is fit high = (omega (arith, is), omega (arith, is, fit, high))

  lives_there : (o : Born) → Has o blocks → (i id : ℕ) → slice_get o.ids i ≡ Some id → Placed slots (foot w) holds_now.memory.flat.objects o.block i id
  lives_there o has i id e =
      let p = f.lives o has i id e in
      let range = in_slot (foot w) p.object.base p.slot.offset p.slot.size p.base (fits.inside o.block i p.slot p.slotted) f.high in
      record {
        object = p.object;
        slot = p.slot;
        live = live_now id p.object (stays.lives id p.object (live_then id p.object p.live) range.0 range.1);
        slotted = p.slotted;
        base = p.base;
        size = p.size;
      }

  area_there : (old new sp : ℕ) → old ≤ new → 0x20000000 - old ≤ sp → 0x20000000 - new ≤ sp
  area_there old new sp le is = omega (arith, le, is)

  pub frame_stays : HasFrame slots cost blocks y
  frame_stays = record {
    holds = holds_now;
    low = subst (λ n. 0x1F000000 ≤ n) (sym same) f.low;
    high = subst (λ n. n + cost ≤ 0x20000000) (sym same) f.high;
    area = subst (λ n. 0x20000000 - holds_now.memory.flat.stack ≤ n) (sym same)
        (area_there f.holds.memory.flat.stack holds_now.memory.flat.stack (foot w)
        (subst (λ n. n ≤ holds_now.memory.flat.stack) (ap area_in f.holds.there) (subst (λ n. area_in w.beside.memory ≤ n) (ap area_in holds_now.there) stays.area)) f.area);
    aligned = subst (λ n. n % 4 ≡ 0) (sym same) f.aligned;
    only = λ id p l. subst (λ n. IsThere n id p) (sym same) (only_there id p l);
    lives = λ o has i id e. subst (λ n. Placed slots n holds_now.memory.flat.objects o.block i id) (sym same) (lives_there o has i id e);
  }
