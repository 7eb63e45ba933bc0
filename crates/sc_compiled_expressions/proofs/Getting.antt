-- A word that waits in a temporary is taken into a register.
use Rattle.std.proofs.Common.{◌≡◌, ℕ, zero, suc, ◌+◌, ◌-◌, ◌*◌, ◌%◌, ◌^◌, ◌<◌, ◌≤◌, ◌==◌, false, List, [], ◌∷◌, ◌++◌, length, get_or, Option, Some, None, refl, sym, ap, subst, ◌∙◌, arith, inl, inr}
use Rattle.std.proofs.lemmas.Option.{slice_get-get_or}
use Rattle.std.specs.Prelude.{option_map, slice_get}
use Rattle.sc_base.specs.declared.memory.Cell.{Cell as Stored}
use Rattle.sc_base.specs.declared.memory.Cell.TheVariants.{Unwritten}
use Rattle.sc_base.specs.declared.memory.Word.{Word}
use Rattle.sc_isa.specs.declared.instruction.LoadOp.TheVariants.{Lw}
use Rattle.sc_cells.specs.Range.{range_of}
use Rattle.sc_cells.proofs.Ranges.{length-range_of}
use Rattle.sc_mem.specs.Flat.{Flat, aligned_place, cell_at, cell_in, place, raw_read}
use Rattle.sc_mem.specs.Words.{cells_of, word_of}
use Rattle.sc_mem.proofs.Whole.{whole-cells, whole-read}
use Rattle.sc_emu.specs.Operations.{bits_of, load_size, plain, sum}
use Rattle.sc_emu.specs.Registers.{AreRegisters, Registers, register, with_word}
use Rattle.sc_meaning.specs.Values.{Value}
use Rattle.sc_meaning.specs.World.{World}
use Rattle.sc_mem_store.proofs.Cells.{place-bound, place-part}
use Rattle.sc_mem_store.proofs.Lists.{get-range}
use Rattle.sc_mem_store.proofs.Living.{length_of_word}
use Rattle.sc_mixed.specs.Bridge.{with_registers}
use Rattle.sc_mixed.specs.declared.calls.Calls.{Calls}
use Rattle.sc_mixed_means.specs.Stages.{Stage}
use Rattle.sc_mixed_means.specs.Waiting.{stored_in}
use Rattle.sc_gen_code.specs.declared.style.Spot.{Spot}
use Rattle.sc_gen_code.specs.declared.symbolic.Access.TheVariants as access
use Rattle.sc_gen_code.specs.Code.{pop}
use Rattle.sc_compiled_values.specs.Straight.{IsFile, with}
use Rattle.sc_compiled_frames.specs.Frames.{foot}
use Rattle.sc_compiled_frames.proofs.Waiting as framed
use Rattle.sc_compiled_expressions.specs.Parts.{End, Family, Leading, Meets}
use Rattle.sc_compiled_expressions.proofs.Behind.{behind_load}
use Rattle.sc_compiled_expressions.specs.Standing.{Home, MeansIn, Stands, slots, stub}
use Rattle.sc_compiled_expressions.specs.Good.{IsPlaced}
use Rattle.sc_compiled_expressions.proofs.Standing.{memory_of, stands_with}
use Rattle.sc_compiled_expressions.proofs.Numbers.{index_zero}
use Rattle.sc_compiled_expressions.specs.Direct.{AtAccess, Fetched, IsFree}
use Rattle.sc_compiled_expressions.proofs.Loading.{not_sp, not_zero, put_there, registers_of}
use Rattle.sc_compiled_expressions.proofs.Reaching.{kept, reach_near}
use Rattle.sc_meaning.specs.Outcomes.{Done}
use Rattle.sc_meaning.proofs.Steps.{here}
use Rattle.sc_compiled_expressions.proofs.Joining.{at_once}
use Rattle.sc_compiled_expressions.specs.Waits.{IsTemporary, Pops, WordWaits}
use Rattle.sc_compiled_expressions.proofs.Pushing.{small, whole_address}
use Rattle.sc_compiled_values.proofs.Steps.{file_with}

-- lists with the same elements
same_list : (ys cs : List Stored) → length ys ≡ length cs → ((k : ℕ) → k < length ys → slice_get ys k ≡ slice_get cs k) → ys ≡ cs
same_list [] [] n e = refl
same_list [] (c ∷ cs) n e = absurd (omega (arith, n))
same_list (y ∷ ys) [] n e = absurd (omega (arith, n))
same_list (y ∷ ys) (c ∷ cs) n e = heads y c (same_list ys cs (omega (arith, n)) (λ k lt. e (suc k) (omega (arith, lt)))) (e 0 (omega arith))
  where
    heads : (y c : Stored) → ys ≡ cs → Some y ≡ Some c → y ∷ ys ≡ c ∷ cs
    heads y c f g = ap (λ zs. y ∷ zs) f ∙ ap (λ z. z ∷ cs) (one y c g)
      where
        one : (y c : Stored) → Some y ≡ Some c → y ≡ c
        one y c g = cc (g)

-- a word that waits in the frame is read there
module _ (home : Home) (t : ℕ) (even : t % 4 ≡ 0) (fits : t + 4 ≤ home.cost) (s : Stage) (c : Calls) (w v : World) (st : Stands home s c w v) (x : Word) (wide : x.bits < 2 ^ 32) (waits : WordWaits w (foot w + t) x) where
  abbrev m : Flat
  m = st.frame.holds.memory.flat

  abbrev a : ℕ
  a = foot w + t

  abbrev i : ℕ
  i = framed.place_there (slots home) home.cost home.env.blocks (stub w) w st.stubs st.frame t even fits

  place_is : place m a 4 ≡ Some i
  place_is = framed.place_is (slots home) home.cost home.env.blocks (stub w) w st.stubs st.frame t even fits

  aligned : aligned_place m a 4 ≡ Some i
  aligned = framed.aligned (slots home) home.cost home.env.blocks (stub w) w st.stubs st.frame t even fits

  long : length (range_of m.cells i 4) ≡ 4
  long =
      let safe = st.frame.holds.words.held.safe in
      let sized = safe.sized in
      let bound = place-bound m.heap m.stack a 4 i safe.heap safe.stack place_is in
      length-range_of m.cells i 4 (omega (arith, bound, sized))

  cell_there : (k : ℕ) → k < 4 → slice_get m.cells (i + k) ≡ slice_get (cells_of 4 x) k
  cell_there k lt =
      let safe = st.frame.holds.words.held.safe in
      sym (ap (cell_in m.cells) (place-part m.heap m.stack a 4 i k safe.heap safe.stack place_is lt)) ∙ sym (ap (λ o. stored_in o (a + k)) st.frame.holds.there) ∙ (waits k lt).1

  each_same : (k : ℕ) → k < length (range_of m.cells i 4) → slice_get (range_of m.cells i 4) k ≡ slice_get (cells_of 4 x) k
  each_same k lt =
      let d : Stored = get_or (range_of m.cells i 4) k Unwritten in
      let got : slice_get (range_of m.cells i 4) k ≡ Some d = slice_get-get_or (range_of m.cells i 4) k Unwritten lt in
      got ∙ sym (get-range m.cells i 4 k d got) ∙ cell_there k (subst (λ n. k < n) long lt)

  cells_same : range_of m.cells i 4 ≡ cells_of 4 x
  cells_same = same_list (range_of m.cells i 4) (cells_of 4 x) (long ∙ sym (length_of_word 4 x (inr (inr refl)))) each_same

  pub word_read : raw_read st.frame.holds.memory.flat (foot w + t) 4 ≡ Some x
  word_read = ap (option_map (λ k. word_of (range_of m.cells k 4))) aligned ∙ ap (λ cs. Some (word_of cs)) cells_same ∙ ap Some (sym (whole-read (cells_of 4 x) x wide (sym (whole-cells x))))

module _ (home : Home) (most : ℕ) (at : Spot) (few : at.depth ≤ 5) (t : ℕ) (tmp : IsTemporary home at t) (s : Stage) (c : Calls) (w v : World) (st : Stands home s c w v) (x : Word) (wide : x.bits < 2 ^ 32) (waits : WordWaits w (foot w + t) x) where
  abbrev flat : Flat
  flat = st.frame.holds.memory.flat

  fits : t + 4 ≤ home.cost
  fits = let room = tmp.room in let frame = tmp.frame in omega (arith, room, frame)

  pub pop_goes : {X : Type 0} (E : End X) (r : Family X) (rd : ℕ) → IsFree rd → (val : Value) → MeansIn w x val → IsPlaced home c.regs.pc (pop rd t) → Leading v r
      → ((d : Calls) → Fetched home rd (c.regs.pc + 4 * length (pop rd t)) c w s val v d w → Meets most s E d w v r) → Meets most s E c w v r
  pop_goes E r rd free val means pl leads go =
      reach_near home most s E c w v r st leads (access.Load Lw rd) t (small home most at few t tmp s c w v st) pl
      (λ q there.
      let stands_q : Stands home s q w v = subst (λ k. Stands home s k w v) (sym there.rest) (stands_with home s c q.regs w v there.regs (there.same 2 (omega arith) refl) st) in
      let n : Registers = record { pc = q.regs.pc + 4; words = with_word q.regs.words rd x } in
      let file : IsFile (with_word q.regs.words rd x) (with (register q.regs) rd x) = file_with q.regs.words (register q.regs) rd x free.small (record { count = there.regs.count; each = λ j lt. refl }) in
      let are : AreRegisters (with_word q.regs.words rd x) = registers_of (with_word q.regs.words rd x) (with (register q.regs) rd x) file (kept rd (register q.regs) x 0 (not_zero rd free) ∙ index_zero q.regs.words there.regs) in
      behind_load most s st.value E Lw rd there.base there.offset q w v x r (memory_of home s c w v st) there.instr
      (ap (λ b. raw_read flat b 4) (there.there ∙ whole_address home most at few t tmp s c w v st) ∙ word_read home t tmp.even fits s c w v st x wide waits) leads
      (go (with_registers n q) (record {
        there = there.last;
        world = refl;
        word = subst (λ k. MeansIn w k val) (sym (file.each rd free.small ∙ put_there rd (register q.regs) x free)) means;
        stands = stands_with home s q n w v are (file.each 2 (omega arith) ∙ kept rd (register q.regs) x 2 (not_sp rd free)) stands_q;
        same = λ j lt e f. file.each j lt ∙ kept rd (register q.regs) x j f ∙ there.same j lt e;
        rest = ap (with_registers n) there.rest;
      })))

pub pops : (home : Home) (most : ℕ) (at : Spot) → at.depth ≤ 5 → (t : ℕ) → IsTemporary home at t → (rd : ℕ) → IsFree rd → Pops home most t rd
pops home most at few t tmp rd free = λ s c w v st x wide waits val means pl.
    let E : End Value = Fetched home rd (c.regs.pc + 4 * length (pop rd t)) c w in
    pop_goes home most at few t tmp s c w v st x wide waits E (λ h m. Done val v) rd free val means pl (λ h m. here v) (λ d p. at_once most s E d w v (λ h m. Done val v) val (λ h m. refl) p)
