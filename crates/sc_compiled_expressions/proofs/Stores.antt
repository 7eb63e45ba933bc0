-- At a store that finds a place the machine goes one way: no other need fits its step at every memory.
use Rattle.std.proofs.Common.{◌≡◌, ◌⊎◌, inl, inr, ℕ, zero, suc, ◌+◌, ◌-◌, ◌%◌, ◌≤◌, ◌<◌, Bool, true, false, List, ◌++◌, length, take, drop, append-nil, Option, Some, None, refl, sym, ap, subst, ◌∙◌, arith, length-append}
use Rattle.std.proofs.lemmas.Bool.{cases_lt}
use Rattle.std.specs.Prelude.{ℤ, if◌then◌else◌, ◌==◌, map, replicate, option_map}
use Rattle.sc_base.specs.declared.memory.Cell.{Cell}
use Rattle.sc_base.specs.declared.memory.Cell.TheVariants.{Byte, Unwritten}
use Rattle.sc_base.specs.declared.memory.Word.{Word}
use Rattle.sc_isa.specs.declared.instruction.Instr.TheVariants.{Store}
use Rattle.sc_isa.specs.declared.instruction.LoadOp.{LoadOp}
use Rattle.sc_isa.specs.declared.instruction.StoreOp.{StoreOp}
use Rattle.sc_isa.specs.declared.instruction.StoreOp.TheVariants.{Sb, Sh, Sw}
use Rattle.sc_isa_image.specs.declared.image.Image.{Image}
use Rattle.sc_isa_image.specs.Lookups.{word_at}
use Rattle.sc_cells.specs.Range.{range_of, with_range}
use Rattle.sc_mem.specs.Flat.{Flat, aligned_place, place, place_in, put, raw_read, written_at}
use Rattle.sc_mem.specs.Words.{IsSize, bytes_of, cells_of, pieces_of, word_of}
use Rattle.sc_mem_store.proofs.Cells.{place-apart, place-part}
use Rattle.sc_emu.specs.declared.beginning.Need.{Need}
use Rattle.sc_emu.specs.declared.beginning.Need.TheVariants as need
use Rattle.sc_emu.specs.declared.outcome.Crash.TheVariants.{Misaligned}
use Rattle.sc_emu.specs.declared.outcome.Step.{Step}
use Rattle.sc_emu.specs.declared.outcome.Step.TheVariants as step
use Rattle.sc_emu.specs.Beginning.{Begins, IsTakeable}
use Rattle.sc_emu.specs.Machine.{Outcome, Goes, Asks, Returns, Stops, Gives, loads, rv_step, state_of, stores}
use Rattle.sc_emu.specs.Operations.{bits_of, load_size, store_size, sum}
use Rattle.sc_emu.specs.Registers.{Registers, register}
use Rattle.sc_meaning.specs.World.{World}
use Rattle.sc_services.specs.Memory.{read_at, read_in}
use Rattle.sc_services.specs.Writing.{StoresAt}
use Rattle.sc_mixed.specs.Instructions.{Instruction, EndsSo, Stores}
use Rattle.sc_mixed.specs.declared.execute.Went.{Went}
use Rattle.sc_mixed.specs.declared.execute.Went.TheVariants as went
use Rattle.sc_compiled_expressions.specs.Instructions.{HasMemory, InstrAt}
use Rattle.sc_compiled_expressions.proofs.Ways.{stepped}

-- ---- parts in a list of cells of which none is written

abbrev blanks : ℕ → List Cell
blanks n = replicate n Unwritten

many : (n : ℕ) → length (blanks n) ≡ n
many zero = refl
many (suc n) = ap suc (many n)

taken : (k n : ℕ) → k ≤ n → length (take k (blanks n)) ≡ k
taken zero n le = refl
taken (suc k) zero le = absurd (omega (arith, le))
taken (suc k) (suc n) le = ap suc (taken k n (omega (arith, le)))

less_none : (n : ℕ) → n ≡ n - 0
less_none n = omega arith

none_less : (j : ℕ) → 0 ≡ 0 - suc j
none_less j = omega arith

both_less : (n j : ℕ) → n - j ≡ suc n - suc j
both_less n j = omega arith

dropped : (j n : ℕ) → length (drop j (blanks n)) ≡ n - j
dropped zero n = many n ∙ less_none n
dropped (suc j) zero = none_less j
dropped (suc j) (suc n) = dropped j n ∙ both_less n j

put_length : (n k : ℕ) (p : List Cell) → k ≤ n → length (with_range (blanks n) k p) ≡ k + length p + (n - (k + length p))
put_length n k p le =
    sums (length (with_range (blanks n) k p)) (length (take k (blanks n) ++ p)) (length (take k (blanks n))) k (length p) (length (drop (k + length p) (blanks n))) (n - (k + length p))
    (length-append (take k (blanks n) ++ p) (drop (k + length p) (blanks n))) (length-append (take k (blanks n)) p) (taken k n le) (dropped (k + length p) n)
  where
    sums : (a b c k l d e : ℕ) → a ≡ b + d → b ≡ c + l → c ≡ k → d ≡ e → a ≡ k + l + e
    sums a b c k l d e p q r s = omega (arith, p, q, r, s)

-- a part stands where it stands
no_less : (k j l : ℕ) → k < j → 0 < l → j + l + (j - (j + l)) ≡ k + l + (j - (k + l)) → ⊥
no_less k j l lt some e = omega (arith, lt, some, e)

same_place : (k j : ℕ) (p q : List Cell) → p ≡ q → 0 < length p → ((n : ℕ) → with_range (blanks n) k p ≡ with_range (blanks n) j q) → k ≡ j
same_place k j p q e some same =
    elim (cases_lt k j) [
      | inl lt ↦ absurd (no_less k j (length p) lt some (sym (put_length j j p (omega arith)) ∙ (ap (λ x. length (with_range (blanks j) j x)) e ∙ sym (ap length (same j))) ∙ put_length j k p (omega (arith, lt))))
      | inr ge ↦ elim (cases_lt j k) [
        | inl lt ↦ absurd (no_less j k (length p) lt some (sym (put_length k k p (omega arith)) ∙ (ap length (same k) ∙ sym (ap (λ x. length (with_range (blanks k) j x)) e)) ∙ put_length k j p (omega (arith, lt))))
        | inr le ↦ omega (arith, ge, le)
      ]
    ]

take_none : (k : ℕ) → take k (blanks 0) ≡ blanks 0
take_none zero = refl
take_none (suc k) = refl

drop_none : (k : ℕ) → drop k (blanks 0) ≡ blanks 0
drop_none zero = refl
drop_none (suc k) = refl

alone : (k : ℕ) (p : List Cell) → with_range (blanks 0) k p ≡ p
alone k p = ap (λ x. x ++ p ++ drop (k + length p) (blanks 0)) (take_none k) ∙ ap (λ x. p ++ x) (drop_none (k + length p)) ∙ append-nil p

same_parts : (k j : ℕ) (p q : List Cell) → ((n : ℕ) → with_range (blanks n) k p ≡ with_range (blanks n) j q) → p ≡ q
same_parts k j p q same = sym (alone k p) ∙ same 0 ∙ alone j q

-- ---- the cells of a word

cells_long : (size : ℕ) (word : Word) → IsSize size → length (cells_of size word) ≡ size
cells_long size word (inl e) = subst (λ k. length (cells_of k word) ≡ k) (sym e) refl
cells_long size word (inr (inl e)) = subst (λ k. length (cells_of k word) ≡ k) (sym e) refl
cells_long size word (inr (inr e)) = subst (λ k. length (cells_of k word) ≡ k) (sym e) (by_tag (if word.tag == 0 then false else true))
  where
    by_tag : (t : Bool) → length (if t then pieces_of word else map Byte (take 4 (bytes_of word.bits))) ≡ 4
    by_tag true = refl
    by_tag false = refl

a_size : (op : StoreOp) → IsSize (store_size op)
a_size Sb = inl refl
a_size Sh = inr (inl refl)
a_size Sw = inr (inr refl)

some_size : (size : ℕ) → IsSize size → 0 < size
some_size size (inl e) = omega (arith, e)
some_size size (inr (inl e)) = omega (arith, e)
some_size size (inr (inr e)) = omega (arith, e)

-- ---- one place is of one address

a_little : (at : ℕ) → at ≡ at + 0
a_little at = omega arith

not_below : (heap stack at bt n k : ℕ) → heap ≤ 67108864 → stack ≤ 16777216 → 0 < n → place_in heap stack at n ≡ Some k → place_in heap stack bt n ≡ Some k → at < bt → ⊥
not_below heap stack at bt n k high low some p q lt =
    elim (place-apart heap stack bt n k (at + 0) (k + 0) high low q (inl (omega (arith, lt))) (place-part heap stack at n k 0 high low p some)) [
      | inl x ↦ omega (arith, x)
      | inr x ↦ omega (arith, x, some)
    ]

one_address : (heap stack at bt n k : ℕ) → heap ≤ 67108864 → stack ≤ 16777216 → 0 < n → place_in heap stack at n ≡ Some k → place_in heap stack bt n ≡ Some k → at ≡ bt
one_address heap stack at bt n k high low some p q =
    elim (cases_lt at bt) [
      | inl lt ↦ absurd (not_below heap stack at bt n k high low some p q lt)
      | inr ge ↦ elim (cases_lt bt at) [
        | inl lt ↦ absurd (not_below heap stack bt at n k high low some q p lt)
        | inr le ↦ omega (arith, ge, le)
      ]
    ]

aligned_there : (t : Bool) (o : Option ℕ) (k : ℕ) → (if t then o else None) ≡ Some k → (t ≡ true) × (o ≡ Some k)
aligned_there true o k e = (refl, e)
aligned_there false o k e = absurd (cc (e))

-- ---- the one way

abbrev memory_in : Flat → Outcome → Flat
memory_in m (Goes s) = s.memory
memory_in m (Asks s) = s.memory
memory_in m Returns = m
memory_in m (Stops c) = m

-- a memory of the same areas, in which nothing is written
abbrev pub blank : Flat → ℕ → Flat
blank m n = record { heap = m.heap; stack = m.stack; cells = blanks n; objects = m.objects }

abbrev pub behind : Registers → Registers
behind r = record { pc = sum r.pc 4; words = r.words }

-- what a store comes to: memory ran out, or the word, or one with the same cells, is stored
abbrev pub StoredSo : World → ℕ → ℕ → Word → Registers → Went → Registers → World → Type 0
StoredSo w at size word next how regs x = (how ≡ went.NoRoom) ⊎ ((how ≡ went.On) × (regs ≡ next) × ((z : Word) × (cells_of size z ≡ cells_of size word) × StoresAt at size z w x))

module _ (i : Image) (op : StoreOp) (rs base : ℕ) (offset : ℤ) (r : Registers) (w : World) (mem : HasMemory w) (instr : InstrAt i r.pc (Store op rs base offset)) where
  abbrev m : Flat
  m = mem.memory.flat

  abbrev size : ℕ
  size = store_size op

  abbrev to : ℕ
  to = sum (register r base).bits (bits_of offset)

  abbrev word : Word
  word = register r rs

  module _ (k : ℕ) (there : aligned_place m to size ≡ Some k) where
    even : (to % size == 0) ≡ true
    even = (aligned_there (to % size == 0) (place m to size) k there).0

    at_place : place m to size ≡ Some k
    at_place = (aligned_there (to % size == 0) (place m to size) k there).1

    -- the step at a memory of these areas
    goes_so : (n : ℕ) → rv_step (word_at i) (state_of r (blank m n)) ≡ Goes (state_of (behind r) (put (blank m n) to size word))
    goes_so n =
        stepped i (Store op rs base offset) r (blank m n) instr
        ∙ ap (λ t. if t then stores (aligned_place (blank m n) to size) (put (blank m n) to size word) (state_of r (blank m n)) else Stops Misaligned) even
        ∙ ap (λ o. stores o (put (blank m n) to size word) (state_of r (blank m n))) there

    cells_are : (n : ℕ) → (put (blank m n) to size word).cells ≡ with_range (blanks n) k (cells_of size word)
    cells_are n = ap (λ p. (written_at (blank m n) p (cells_of size word)).cells) at_place

    writes_something : (put (blank m 0) to size word).cells ≡ blanks 0 → ⊥
    writes_something e =
        let long = cells_long size word (a_size op) in
        let some = some_size size (a_size op) in
        let none : length (cells_of size word) ≡ 0 = ap length (sym (alone k (cells_of size word)) ∙ sym (cells_are 0) ∙ e) in
        omega (arith, long, some, none)

    stays_so : (s : Registers) → Goes (state_of (behind r) (put (blank m 0) to size word)) ≡ Goes (state_of s (blank m 0)) → ⊥
    stays_so s e = writes_something (ap (λ o. (memory_in (blank m 0) o).cells) e)

    by_done : (t : Step) (middle : Registers) → Gives (rv_step (word_at i) (state_of r (blank m 0))) ⊥ (state_of r (blank m 0)) (state_of middle (blank m 0)) t → ⊥
    by_done step.Went middle b = stays_so middle (sym (goes_so 0) ∙ b)
    by_done (step.Service n) middle b = cc (sym (goes_so 0) ∙ b.0)
    by_done step.AtReturn middle b = cc (sym (goes_so 0) ∙ b.0)
    by_done (step.Stopped c) middle b = cc (sym (goes_so 0) ∙ b.0)
    by_done step.NoMemory middle b = b.1

    by_load : (lop : LoadOp) (rd : ℕ) (o : Option Word) → rv_step (word_at i) (state_of r (blank m 0)) ≡ loads lop rd o (state_of r (blank m 0)) → ⊥
    by_load lop rd None b = cc (sym (goes_so 0) ∙ b)
    by_load lop rd (Some z) b = stays_so _ (sym (goes_so 0) ∙ b)

    module _ (bt size2 : ℕ) (z : Word) (sized : IsSize size2) (j : ℕ) (here : aligned_place m bt size2 ≡ Some j)
        (b : (n : ℕ) → rv_step (word_at i) (state_of r (blank m n)) ≡ Goes (state_of (behind r) (put (blank m n) bt size2 z))) where
      other_place : place m bt size2 ≡ Some j
      other_place = (aligned_there (bt % size2 == 0) (place m bt size2) j here).1

      all_same : (n : ℕ) → with_range (blanks n) k (cells_of size word) ≡ with_range (blanks n) j (cells_of size2 z)
      all_same n =
          sym (cells_are n) ∙ ap (λ o. (memory_in (blank m n) o).cells) (sym (goes_so n) ∙ b n)
          ∙ ap (λ p. (written_at (blank m n) p (cells_of size2 z)).cells) other_place

      same_cells : cells_of size word ≡ cells_of size2 z
      same_cells = same_parts k j (cells_of size word) (cells_of size2 z) all_same

      same_size : size ≡ size2
      same_size = sym (cells_long size word (a_size op)) ∙ ap length same_cells ∙ cells_long size2 z sized

      same_at : to ≡ bt
      same_at =
          let long = cells_long size word (a_size op) in
          let some = some_size size (a_size op) in
          one_address m.heap m.stack to bt size k mem.high mem.low some at_place
          (ap (λ n. place m bt n) same_size ∙ other_place ∙ ap Some (sym (same_place k j (cells_of size word) (cells_of size2 z) same_cells (omega (arith, long, some)) all_same)))

    found : (bt size2 j : ℕ) → aligned_place m bt size2 ≡ Some j → read_at w bt size2 ≡ None → ⊥
    found bt size2 j here none =
        cc (sym (ap (option_map (λ q. word_of (range_of m.cells q size2))) here) ∙ (ap (λ o. read_in o bt size2) (sym mem.there) ∙ none))

    by_store : (bt size2 : ℕ) (z : Word) → IsSize size2 → (o : Option ℕ) → aligned_place m bt size2 ≡ o
        → ((n : ℕ) → rv_step (word_at i) (state_of r (blank m n)) ≡ stores o (put (blank m n) bt size2 z) (state_of r (blank m n)))
        → (how : Went) (regs : Registers) (x : World) → Stores how bt size2 z r regs w x → StoredSo w to size word (behind r) how regs x
    by_store bt size2 z sized None here b how regs x e = absurd (cc (sym (goes_so 0) ∙ b 0))
    by_store bt size2 z sized (Some j) here b went.On regs x e =
        let st : StoresAt to size z w x = subst (λ n. StoresAt to n z w x) (sym (same_size bt size2 z sized j here b)) (subst (λ n. StoresAt n size2 z w x) (sym (same_at bt size2 z sized j here b)) e.2) in
        inr (refl, e.0, (z, ap (λ n. cells_of n z) (same_size bt size2 z sized j here b) ∙ sym (same_cells bt size2 z sized j here b), st))
    by_store bt size2 z sized (Some j) here b (went.Stopped c) regs x e = absurd (found bt size2 j here e.1)
    by_store bt size2 z sized (Some j) here b went.NoRoom regs x e = inl refl
    by_store bt size2 z sized (Some j) here b (went.Asks n) regs x e = absurd e
    by_store bt size2 z sized (Some j) here b went.Returned regs x e = absurd e

    by_need : (n : Need) (middle : Registers) → IsTakeable n → ((memory : Flat) → Begins (rv_step (word_at i) (state_of r memory)) r memory middle n) → (how : Went) (regs : Registers) (x : World) → EndsSo n middle w how regs x → StoredSo w to size word (behind r) how regs x
    by_need (need.Done t) middle takes b how regs x e = absurd (by_done t middle (b (blank m 0)))
    by_need (need.Load lop rd bt) middle takes b how regs x e = absurd (by_load lop rd (raw_read (blank m 0) bt (load_size lop)) (b (blank m 0)).0)
    by_need (need.Store size2 bt z) middle takes b how regs x e =
        by_store bt size2 z takes (aligned_place m bt size2) refl (λ n. (b (blank m n)).0) how regs x (subst (λ (q : Registers). Stores how bt size2 z q regs w x) (b (blank m 0)).1 e)

    pub stores_one_way : (how : Went) (regs : Registers) (x : World) → Instruction i r w how regs x → StoredSo w to size word (behind r) how regs x
    stores_one_way how regs x ins = by_need ins.need ins.middle ins.takeable ins.begins how regs x ins.ends
