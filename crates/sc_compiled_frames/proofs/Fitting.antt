-- The objects of a formed function stand one behind another in its frame.
use Rattle.std.specs.Prelude.{◌&&◌, slice_get, slice_index_or, option_and_then}
use Rattle.std.proofs.Common.{◌≡◌, ◌≢◌, ◌⊎◌, inl, inr, ℕ, zero, suc, ◌+◌, ◌*◌, ◌/◌, ◌%◌, ◌<◌, ◌≤◌, ◌==◌, nat_le, Bool, true, false, if◌then◌else◌, List, [], ◌∷◌, Option, Some, None, refl, sym, ap, subst, arith}
use Rattle.std.proofs.lemmas.Bool.Decides.{nat_tests}
use Rattle.sc_program.specs.declared.frame.Slot.{Slot}
use Rattle.sc_types.specs.Frames.{slot_bytes}
use Rattle.sc_types.specs.declared.ctype.StructDef.{StructDef}
use Rattle.sc_core.specs.declared.module.Auto.{Auto}
use Rattle.sc_core.specs.declared.module.Fun.{Fun}
use Rattle.sc_core_needs.specs.Needs.{need_of_statement}
use Rattle.sc_core_formed.specs.Frames.{is_auto, block_end, blocks_end, objects_begin, largest, costs, is_frame}
use Rattle.sc_compiled_frames.specs.Frames.{Fits, IsBelow}
use Rattle.sc_compiled_frames.specs.Slots.{slots_in, slots_of}

last : (a b : Bool) → (a && b) ≡ true → b ≡ true
last true b e = e
last false b e = absurd (cc (e))

same : (n m : ℕ) → (n == m) ≡ true → n ≡ m
same n m e = grind (arith, nat_tests, e)

some : (A : Type 0) (x y : A) → Some x ≡ Some y → x ≡ y
some A x y e = cc (e)

none : (A B : Type 0) (y : A) → None ≡ Some y → B
none A B y e = absurd (cc (e))

if_some : (b : Bool) (x : Option ℕ) (y : ℕ) → (if b then x else None) ≡ Some y → (b ≡ true) × (x ≡ Some y)
if_some true x y e = (refl, e)
if_some false x y e = absurd (cc (e))

-- ---- one block
room : (n : ℕ) → n < slot_bytes n
room n = omega arith

whole : (at n : ℕ) → at % 4 ≡ 0 → (at + slot_bytes n) % 4 ≡ 0
whole at n e = omega (arith, e)

offset_is : (structs : List StructDef) (at : ℕ) (x : Auto) → is_auto structs at x ≡ true → x.slot.offset ≡ at
offset_is structs at x e = same x.slot.offset at (last _ (x.slot.offset == at) e)

block_grows : (structs : List StructDef) (at end : ℕ) (xs : List Auto) → block_end structs at xs ≡ Some end → at ≤ end
block_grows structs at end [] e = let is : at ≡ end = some ℕ at end e in omega (arith, is)
block_grows structs at end (x ∷ xs) e =
    let p = if_some (is_auto structs at x) (block_end structs (at + slot_bytes x.slot.size) xs) end e in
    let le = block_grows structs (at + slot_bytes x.slot.size) end xs p.1 in
    omega (arith, le)

block_even : (structs : List StructDef) (at end : ℕ) (xs : List Auto) → block_end structs at xs ≡ Some end → at % 4 ≡ 0 → end % 4 ≡ 0
block_even structs at end [] e h = subst (λ k. k % 4 ≡ 0) (some ℕ at end e) h
block_even structs at end (x ∷ xs) e h =
    let p = if_some (is_auto structs at x) (block_end structs (at + slot_bytes x.slot.size) xs) end e in
    block_even structs (at + slot_bytes x.slot.size) end xs p.1 (whole at x.slot.size h)

block_low : (structs : List StructDef) (at end : ℕ) (xs : List Auto) (i : ℕ) (s : Slot) → block_end structs at xs ≡ Some end → slice_get (slots_in xs) i ≡ Some s → at ≤ s.offset
block_low structs at end [] i s e g = none Slot (at ≤ s.offset) s g
block_low structs at end (x ∷ xs) zero s e g =
    let p = if_some (is_auto structs at x) (block_end structs (at + slot_bytes x.slot.size) xs) end e in
    let is : x.slot ≡ s = some Slot x.slot s g in
    let o = offset_is structs at x p.0 in
    subst (λ (t : Slot). at ≤ t.offset) is (omega (arith, o))
block_low structs at end (x ∷ xs) (suc i) s e g =
    let p = if_some (is_auto structs at x) (block_end structs (at + slot_bytes x.slot.size) xs) end e in
    let le = block_low structs (at + slot_bytes x.slot.size) end xs i s p.1 g in
    omega (arith, le)

block_high : (structs : List StructDef) (at end : ℕ) (xs : List Auto) (i : ℕ) (s : Slot) → block_end structs at xs ≡ Some end → slice_get (slots_in xs) i ≡ Some s → s.offset + s.size < end
block_high structs at end [] i s e g = none Slot (s.offset + s.size < end) s g
block_high structs at end (x ∷ xs) zero s e g =
    let p = if_some (is_auto structs at x) (block_end structs (at + slot_bytes x.slot.size) xs) end e in
    let is : x.slot ≡ s = some Slot x.slot s g in
    let o = offset_is structs at x p.0 in
    let le = block_grows structs (at + slot_bytes x.slot.size) end xs p.1 in
    let lt = room x.slot.size in
    subst (λ (t : Slot). t.offset + t.size < end) is (omega (arith, o, le, lt))
block_high structs at end (x ∷ xs) (suc i) s e g =
    let p = if_some (is_auto structs at x) (block_end structs (at + slot_bytes x.slot.size) xs) end e in
    block_high structs (at + slot_bytes x.slot.size) end xs i s p.1 g

slot_even : (structs : List StructDef) (at end : ℕ) (xs : List Auto) (i : ℕ) (s : Slot) → block_end structs at xs ≡ Some end → at % 4 ≡ 0 → slice_get (slots_in xs) i ≡ Some s → s.offset % 4 ≡ 0
slot_even structs at end [] i s e h g = none Slot (s.offset % 4 ≡ 0) s g
slot_even structs at end (x ∷ xs) zero s e h g =
    let p = if_some (is_auto structs at x) (block_end structs (at + slot_bytes x.slot.size) xs) end e in
    subst (λ (t : Slot). t.offset % 4 ≡ 0) (some Slot x.slot s g) (subst (λ k. k % 4 ≡ 0) (sym (offset_is structs at x p.0)) h)
slot_even structs at end (x ∷ xs) (suc i) s e h g =
    let p = if_some (is_auto structs at x) (block_end structs (at + slot_bytes x.slot.size) xs) end e in
    slot_even structs (at + slot_bytes x.slot.size) end xs i s p.1 (whole at x.slot.size h) g

block_order : (structs : List StructDef) (at end : ℕ) (xs : List Auto) (i j : ℕ) (s t : Slot) → block_end structs at xs ≡ Some end → slice_get (slots_in xs) i ≡ Some s → slice_get (slots_in xs) j ≡ Some t → i < j → s.offset + s.size < t.offset
block_order structs at end [] i j s t e g k lt = none Slot (s.offset + s.size < t.offset) s g
block_order structs at end (x ∷ xs) zero zero s t e g k lt = absurd (omega (arith, lt))
block_order structs at end (x ∷ xs) zero (suc j) s t e g k lt =
    let p = if_some (is_auto structs at x) (block_end structs (at + slot_bytes x.slot.size) xs) end e in
    let o = offset_is structs at x p.0 in
    let le = block_low structs (at + slot_bytes x.slot.size) end xs j t p.1 k in
    let small = room x.slot.size in
    subst (λ (u : Slot). u.offset + u.size < t.offset) (some Slot x.slot s g) (omega (arith, o, le, small))
block_order structs at end (x ∷ xs) (suc i) zero s t e g k lt = absurd (omega (arith, lt))
block_order structs at end (x ∷ xs) (suc i) (suc j) s t e g k lt =
    let p = if_some (is_auto structs at x) (block_end structs (at + slot_bytes x.slot.size) xs) end e in
    block_order structs (at + slot_bytes x.slot.size) end xs i j s t p.1 g k (omega (arith, lt))

-- ---- all blocks
abbrev slots_at : List (List Auto) → ℕ → List Slot
slots_at bs b = slots_in (slice_index_or bs b [])

next_of : (structs : List StructDef) (at end : ℕ) (b : List Auto) (bs : List (List Auto)) → blocks_end structs at (b ∷ bs) ≡ Some end → (mid : ℕ) × (block_end structs at b ≡ Some mid) × (blocks_end structs mid bs ≡ Some end)
next_of structs at end b bs e = by (block_end structs at b) refl e
  where
    by : (o : Option ℕ) → block_end structs at b ≡ o → option_and_then (λ k. blocks_end structs k bs) o ≡ Some end → (mid : ℕ) × (block_end structs at b ≡ Some mid) × (blocks_end structs mid bs ≡ Some end)
    by None q r = absurd (cc (r))
    by (Some mid) q r = (mid, q, r)

blocks_grow : (structs : List StructDef) (at end : ℕ) (bs : List (List Auto)) → blocks_end structs at bs ≡ Some end → at ≤ end
blocks_grow structs at end [] e = let is : at ≡ end = some ℕ at end e in omega (arith, is)
blocks_grow structs at end (b ∷ bs) e =
    let (mid, p, q) = next_of structs at end b bs e in
    let le = block_grows structs at mid b p in
    let more = blocks_grow structs mid end bs q in
    omega (arith, le, more)

blocks_low : (structs : List StructDef) (at end : ℕ) (bs : List (List Auto)) (b i : ℕ) (s : Slot) → blocks_end structs at bs ≡ Some end → slice_get (slots_at bs b) i ≡ Some s → at ≤ s.offset
blocks_low structs at end [] b i s e g = none Slot (at ≤ s.offset) s g
blocks_low structs at end (x ∷ xs) zero i s e g = let (mid, p, q) = next_of structs at end x xs e in block_low structs at mid x i s p g
blocks_low structs at end (x ∷ xs) (suc b) i s e g =
    let (mid, p, q) = next_of structs at end x xs e in
    let le = block_grows structs at mid x p in
    let more = blocks_low structs mid end xs b i s q g in
    omega (arith, le, more)

blocks_high : (structs : List StructDef) (at end : ℕ) (bs : List (List Auto)) (b i : ℕ) (s : Slot) → blocks_end structs at bs ≡ Some end → slice_get (slots_at bs b) i ≡ Some s → s.offset + s.size < end
blocks_high structs at end [] b i s e g = none Slot (s.offset + s.size < end) s g
blocks_high structs at end (x ∷ xs) zero i s e g =
    let (mid, p, q) = next_of structs at end x xs e in
    let lt = block_high structs at mid x i s p g in
    let more = blocks_grow structs mid end xs q in
    omega (arith, lt, more)
blocks_high structs at end (x ∷ xs) (suc b) i s e g = let (mid, p, q) = next_of structs at end x xs e in blocks_high structs mid end xs b i s q g

blocks_even : (structs : List StructDef) (at end : ℕ) (bs : List (List Auto)) (b i : ℕ) (s : Slot) → blocks_end structs at bs ≡ Some end → at % 4 ≡ 0 → slice_get (slots_at bs b) i ≡ Some s → s.offset % 4 ≡ 0
blocks_even structs at end [] b i s e h g = none Slot (s.offset % 4 ≡ 0) s g
blocks_even structs at end (x ∷ xs) zero i s e h g = let (mid, p, q) = next_of structs at end x xs e in slot_even structs at mid x i s p h g
blocks_even structs at end (x ∷ xs) (suc b) i s e h g = let (mid, p, q) = next_of structs at end x xs e in blocks_even structs mid end xs b i s q (block_even structs at mid x p h) g

blocks_order : (structs : List StructDef) (at end : ℕ) (bs : List (List Auto)) (b i j : ℕ) (s t : Slot) → blocks_end structs at bs ≡ Some end → slice_get (slots_at bs b) i ≡ Some s → slice_get (slots_at bs b) j ≡ Some t → i < j → s.offset + s.size < t.offset
blocks_order structs at end [] b i j s t e g k lt = none Slot (s.offset + s.size < t.offset) s g
blocks_order structs at end (x ∷ xs) zero i j s t e g k lt = let (mid, p, q) = next_of structs at end x xs e in block_order structs at mid x i j s t p g k lt
blocks_order structs at end (x ∷ xs) (suc b) i j s t e g k lt = let (mid, p, q) = next_of structs at end x xs e in blocks_order structs mid end xs b i j s t q g k lt

blocks_later : (structs : List StructDef) (at end : ℕ) (bs : List (List Auto)) (b c i j : ℕ) (s t : Slot) → blocks_end structs at bs ≡ Some end → slice_get (slots_at bs b) i ≡ Some s → slice_get (slots_at bs c) j ≡ Some t → b < c → s.offset + s.size < t.offset
blocks_later structs at end [] b c i j s t e g k lt = none Slot (s.offset + s.size < t.offset) s g
blocks_later structs at end (x ∷ xs) zero zero i j s t e g k lt = absurd (omega (arith, lt))
blocks_later structs at end (x ∷ xs) zero (suc c) i j s t e g k lt =
    let (mid, p, q) = next_of structs at end x xs e in
    let high = block_high structs at mid x i s p g in
    let low = blocks_low structs mid end xs c j t q k in
    omega (arith, high, low)
blocks_later structs at end (x ∷ xs) (suc b) zero i j s t e g k lt = absurd (omega (arith, lt))
blocks_later structs at end (x ∷ xs) (suc b) (suc c) i j s t e g k lt =
    let (mid, p, q) = next_of structs at end x xs e in
    blocks_later structs mid end xs b c i j s t q g k (omega (arith, lt))

-- ---- the frame
cost_of : (structs : List StructDef) (at cost : ℕ) (bs : List (List Auto)) → costs (blocks_end structs at bs) cost ≡ true → (end : ℕ) × (blocks_end structs at bs ≡ Some end) × (end < cost)
cost_of structs at cost bs e = by (blocks_end structs at bs) refl e
  where
    rounded : (end cost : ℕ) → ((end + 8 + 15) / 16 * 16 == cost) ≡ true → end < cost
    rounded end cost e = let is = same ((end + 8 + 15) / 16 * 16) cost e in omega (arith, is)

    first : (a b : Bool) → (a && b) ≡ true → a ≡ true
    first true b e = refl
    first false b e = absurd (cc (e))

    by : (o : Option ℕ) → blocks_end structs at bs ≡ o → costs o cost ≡ true → (end : ℕ) × (blocks_end structs at bs ≡ Some end) × (end < cost)
    by None q r = absurd (cc (r))
    by (Some end) q r = (end, q, rounded end cost (first ((end + 8 + 15) / 16 * 16 == cost) (nat_le cost largest) r))

less : (i j : ℕ) → i ≢ j → (i < j) ⊎ (j < i)
less zero zero ne = absurd (ne refl)
less zero (suc j) ne = inl (omega arith)
less (suc i) zero ne = inr (omega arith)
less (suc i) (suc j) ne = elim (less i j (λ e. ne (ap suc e))) [ inl p ↦ inl (omega (arith, p)) | inr p ↦ inr (omega (arith, p)) ]

equal_or : (b c : ℕ) → (b ≡ c) ⊎ (b ≢ c)
equal_or b c = by (b == c) refl
  where
    by : (t : Bool) → (b == c) ≡ t → (b ≡ c) ⊎ (b ≢ c)
    by true e = inl (same b c e)
    by false e = inr (λ q. grind (arith, nat_tests, e, q))

begin_even : (structs : List StructDef) (f : Fun) → objects_begin (need_of_statement f.body) % 4 ≡ 0
begin_even structs f = omega arith

module _ (structs : List StructDef) (f : Fun) (formed : is_frame structs f ≡ true) where
  abbrev At : ℕ
  At = objects_begin (need_of_statement f.body)

  apart_slots : (end : ℕ) → blocks_end structs At f.blocks ≡ Some end → (b c i j : ℕ) (s t : Slot) → slice_get (slots_of f b) i ≡ Some s → slice_get (slots_of f c) j ≡ Some t → (b ≢ c) ⊎ (i ≢ j) → (s.offset + s.size < t.offset) ⊎ (t.offset + t.size < s.offset)
  apart_slots end e b c i j s t g k ne =
      elim (equal_or b c) [
        | inr n ↦ elim (less b c n) [ inl lt ↦ inl (blocks_later structs At end f.blocks b c i j s t e g k lt) | inr lt ↦ inr (blocks_later structs At end f.blocks c b j i t s e k g lt) ]
        | inl is ↦ one is
      ]
    where
      differ : b ≡ c → (b ≢ c) ⊎ (i ≢ j) → i ≢ j
      differ is (inl n) = absurd (n is)
      differ is (inr n) = n

      one : b ≡ c → (s.offset + s.size < t.offset) ⊎ (t.offset + t.size < s.offset)
      one is =
          let k2 : slice_get (slots_of f b) j ≡ Some t = subst (λ z. slice_get (slots_of f z) j ≡ Some t) (sym is) k in
          elim (less i j (differ is ne)) [ inl lt ↦ inl (blocks_order structs At end f.blocks b i j s t e g k2 lt) | inr lt ↦ inr (blocks_order structs At end f.blocks b j i t s e k2 g lt) ]

  pub slots_fit : Fits (slots_of f) f.cost
  slots_fit =
      let (end, e, lt) = cost_of structs At f.cost f.blocks formed in
      record {
        inside = λ b i s g. (let high = blocks_high structs At end f.blocks b i s e g in omega (arith, high, lt));
        even = λ b i s g. blocks_even structs At end f.blocks b i s e (begin_even structs f) g;
        apart = apart_slots end e;
      }

  pub words_below : (t : ℕ) → t + 4 ≤ At → IsBelow (slots_of f) t
  words_below t le b i s g =
      let (end, e, lt) = cost_of structs At f.cost f.blocks formed in
      let low = blocks_low structs At end f.blocks b i s e g in
      omega (arith, low, le)
