-- The word of a value waits in the frame, below the slots.
use Rattle.std.proofs.Common.{◌≡◌, ◌⊎◌, inl, inr, ℕ, zero, suc, ◌+◌, ◌-◌, ◌%◌, ◌^◌, ◌<◌, ◌≤◌, ◌==◌, List, [], ◌∷◌, ◌++◌, length, take, drop, Option, Some, None, refl, sym, ap, subst, ◌∙◌, true, append_assoc, arith}
use Rattle.std.specs.Prelude.{if◌then◌else◌, option_map}
use Rattle.std.specs.Option.{IsSome}
use Rattle.sc_base.specs.declared.key.Key.{Key}
use Rattle.sc_base.specs.declared.memory.Cell.{Cell as Stored}
use Rattle.sc_base.specs.declared.memory.Word.{Word}
use Rattle.sc_program.specs.declared.frame.Slot.{Slot}
use Rattle.sc_cells.specs.Range.{range_of, with_range}
use Rattle.sc_objects.specs.Numbered.{IsLive}
use Rattle.sc_mem.specs.Flat.{Flat, aligned_place, place, put, raw_read, written_at}
use Rattle.sc_mem.specs.Words.{cells_of, word_of}
use Rattle.sc_mem.proofs.Whole.{whole-cells, whole-read}
use Rattle.sc_meaning.specs.Beside.{kept_in}
use Rattle.sc_meaning.specs.Values.{Value}
use Rattle.sc_meaning.specs.World.{Born, World}
use Rattle.sc_mem_store.specs.Living.{IsBare}
use Rattle.sc_mem_store.proofs.Cells.{place-bound}
use Rattle.sc_mem_store.proofs.Living.{length_of_word}
use Rattle.sc_compiled_frames.specs.Means.{Means}
use Rattle.sc_compiled_frames.specs.Words.{AreStubs}
use Rattle.sc_compiled_frames.proofs.Beside.{words_beside}
use Rattle.sc_compiled_frames.specs.Frames.{HasFrame, IsBelow, Placed, foot, waiting}
use Rattle.sc_compiled_frames.proofs.Near.{near_stack}

-- ---- one of two

pub below_or_not : (n m : ℕ) → (n < m) ⊎ (m ≤ n)
below_or_not n zero = inr (omega arith)
below_or_not zero (suc m) = inl (omega arith)
below_or_not (suc n) (suc m) = elim (below_or_not n m) [ inl lt ↦ inl (omega (arith, lt)) | inr le ↦ inr (omega (arith, le)) ]

-- ---- what is written is read
pub drop_front : {A : Type 0} (n : ℕ) (xs ys : List A) → n ≤ length xs → drop n (take n xs ++ ys) ≡ ys
drop_front zero xs ys le = refl
drop_front (suc n) [] ys le = absurd (none n le)
  where
    none : (n : ℕ) → suc n ≤ 0 → ⊥
    none n le = omega (arith, le)
drop_front (suc n) (x ∷ xs) ys le = drop_front n xs ys (less n (length xs) le)
  where
    less : (n m : ℕ) → suc n ≤ suc m → n ≤ m
    less n m le = omega (arith, le)

pub take_front : {A : Type 0} (xs ys : List A) → take (length xs) (xs ++ ys) ≡ xs
take_front [] ys = refl
take_front (x ∷ xs) ys = ap (λ zs. x ∷ zs) (take_front xs ys)

pub range_here : (cells part : List Stored) (i : ℕ) → i ≤ length cells → range_of (with_range cells i part) i (length part) ≡ part
range_here cells part i le =
    let rest : List Stored = drop (i + length part) cells in
    ap (λ zs. take (length part) (drop i zs)) (append_assoc (take i cells) part rest) ∙ ap (take (length part)) (drop_front i cells (part ++ rest) le) ∙ take_front part rest

pub table_same : (m : Flat) (q : Option ℕ) (part : List Stored) → (written_at m q part).objects ≡ m.objects
table_same m None part = refl
table_same m (Some i) part = refl

pub stack_same : (m : Flat) (q : Option ℕ) (part : List Stored) → (written_at m q part).stack ≡ m.stack
stack_same m None part = refl
stack_same m (Some i) part = refl

pub test_holds : (at : ℕ) → at % 4 ≡ 0 → (at % 4 == 0) ≡ true
test_holds at e = rw e refl

pub is_there : (q : Option ℕ) (i : ℕ) → q ≡ Some i → IsSome q
is_there q i e = subst (λ p. IsSome p) (sym e) refl

module _ (slots : ℕ → List Slot) (cost : ℕ) (bs : List Born) (f : Key → ℕ) (w : World) (stubs : AreStubs w.beside.functions f) (mem : HasFrame slots cost bs w) (t : ℕ) (even : t % 4 ≡ 0) (room : t + 4 ≤ cost) where
  abbrev pub m : Flat
  m = mem.holds.memory.flat

  abbrev pub at : ℕ
  at = foot w + t

  abbrev pub place_there : ℕ
  place_there = 1048576 + m.heap + (at - (536870912 - m.stack))

  pub place_is : place m at 4 ≡ Some place_there
  place_is =
      let heap = mem.holds.words.held.safe.heap in
      let stack = mem.holds.words.held.safe.stack in
      let low = mem.area in
      let high = mem.high in
      near_stack m.heap m.stack at 4 heap stack (omega (arith, low)) (omega (arith, low, high, stack, room))

  pub aligned : aligned_place m at 4 ≡ Some place_there
  aligned =
      let a = mem.aligned in
      let fours : at % 4 ≡ 0 = omega (arith, a, even) in
      ap (λ b. if b then place m at 4 else None) (test_holds at fours) ∙ place_is

  pub bare : IsBelow slots t → IsBare m.objects at
  bare under id p live = elim (mem.only id p live) [
    | inl x ↦ inr (omega (arith, x))
    | inr y ↦ elim y [
      | inl z ↦ inl (omega (arith, z, room))
      | inr q ↦
          let further = under q.of.block q.index q.slot q.slotted in
          let base = q.base in
          inl (omega (arith, further, base))
    ]
  ]

  pub word_waits : (x : Word) (v : Value) → IsBelow slots t → Means f m.objects x v → HasFrame slots cost bs (waiting at x w)
  word_waits x v under means =
      let q : Option ℕ = place m at 4 in
      let part : List Stored = cells_of 4 x in
      record {
        holds = record {
          memory = kept_in at 4 x mem.holds.memory;
          there = ap (option_map (kept_in at 4 x)) mem.holds.there;
          words = words_beside w.beside.functions f stubs m w.objects at 4 x v mem.holds.words (inr (inr refl)) (bare under) means (is_there (aligned_place m at 4) place_there aligned);
        };
        low = mem.low;
        high = mem.high;
        area = subst (λ k. 0x20000000 - k ≤ foot w) (sym (stack_same m q part)) mem.area;
        aligned = mem.aligned;
        only = λ id p live. mem.only id p (subst (λ l. IsLive l id p) (table_same m q part) live);
        lives = λ o h i id e. subst (λ l. Placed slots (foot w) l o.block i id) (sym (table_same m q part)) (mem.lives o h i id e);
      }

  pub word_is_read : (x : Word) → x.bits < 2 ^ 32 → raw_read (put m at 4 x) at 4 ≡ Some x
  word_is_read x wide =
      let safe = mem.holds.words.held.safe in
      let sized = safe.sized in
      let part : List Stored = cells_of 4 x in
      let long : length part ≡ 4 = length_of_word 4 x (inr (inr refl)) in
      let bound = place-bound m.heap m.stack at 4 place_there safe.heap safe.stack place_is in
      let within : place_there ≤ length m.cells = omega (arith, bound, sized) in
      let after : Flat = record { heap = m.heap; stack = m.stack; cells = with_range m.cells place_there part; objects = m.objects } in
      let is_put : put m at 4 x ≡ after = ap (λ q. written_at m q part) place_is in
      let here : range_of after.cells place_there 4 ≡ part = subst (λ n. range_of after.cells place_there n ≡ part) long (range_here m.cells part place_there within) in
      let word : x ≡ word_of part = whole-read part x wide (sym (whole-cells x)) in
      ap (λ (z : Flat). raw_read z at 4) is_put ∙ ap (option_map (λ i. word_of (range_of after.cells i 4))) aligned ∙ ap Some (ap word_of here ∙ sym word)
