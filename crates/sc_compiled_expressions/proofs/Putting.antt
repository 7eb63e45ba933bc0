-- One store puts a word into the frame beside all objects: the call stands as before, and what waits elsewhere is as it was.
use Rattle.std.proofs.Common.{◌≡◌, ◌⊎◌, inl, inr, ℕ, zero, suc, ◌+◌, ◌-◌, ◌*◌, ◌%◌, ◌^◌, ◌<◌, ◌≤◌, true, ℤ, List, [], ◌∷◌, ◌++◌, length, append-nil, Option, Some, None, refl, sym, ap, subst, ◌∙◌, arith}
use Rattle.std.specs.Prelude.{IfSome, option_map, slice_get}
use Rattle.std.specs.Option.{IsSome}
use Rattle.sc_base.specs.declared.memory.Cell.{Cell as Stored}
use Rattle.sc_base.specs.declared.memory.Word.{Word}
use Rattle.sc_isa.specs.declared.instruction.Instr.TheVariants.{Store}
use Rattle.sc_isa.specs.declared.instruction.StoreOp.TheVariants.{Sw}
use Rattle.sc_objects.specs.declared.objects.Obj.{Obj}
use Rattle.sc_objects.specs.Numbered.{IsLive, object_of}
use Rattle.sc_mem.specs.Flat.{Flat, aligned_place, cell_at, place, put, written_at}
use Rattle.sc_mem.specs.Safe.{Store as Memory}
use Rattle.sc_mem.specs.Words.{cells_of}
use Rattle.sc_emu.specs.Operations.{bits_of, sum}
use Rattle.sc_emu.specs.Registers.{AreRegisters, Registers, register}
use Rattle.sc_meaning.specs.Beside.{kept_in, with_memory}
use Rattle.sc_meaning.specs.Values.{Value}
use Rattle.sc_meaning.specs.World.{World}
use Rattle.sc_meaning.proofs.Steps.{here}
use Rattle.sc_mem_store.specs.Living.{IsBare, IsByteOf}
use Rattle.sc_mem_store.proofs.Cells.{written-here, written-other}
use Rattle.sc_mem_store.proofs.Living.{length_of_word}
use Rattle.sc_services.specs.Memory.{IsBareAt, StandsAt}
use Rattle.sc_services.specs.Writing.{BesideObjects, InsideObject, OverItsEnd, StoresAt}
use Rattle.sc_like.specs.Alike.{Like}
use Rattle.sc_mixed.specs.Bridge.{with_registers}
use Rattle.sc_mixed.specs.declared.calls.Calls.{Calls}
use Rattle.sc_mixed.specs.declared.calls.Lower.{Lower}
use Rattle.sc_mixed.specs.declared.calls.Lower.TheVariants.{InBodies, InCode}
use Rattle.sc_mixed_means.specs.Stages.{Stage}
use Rattle.sc_mixed_means.specs.Waiting.{KeepsWaiting, object_in, stored_in}
use Rattle.sc_mixed_means.specs.Waiting as waiting_below
use Rattle.sc_gen_code.specs.declared.style.Spot.{Spot}
use Rattle.sc_gen_code.specs.declared.symbolic.Target.{Target}
use Rattle.sc_compiled_frames.specs.Means.{Means}
use Rattle.sc_compiled_frames.specs.Frames.{HasFrame, IsBelow, foot, waiting}
use Rattle.sc_compiled_frames.proofs.Waiting as framed
use Rattle.sc_compiled_expressions.specs.Instructions.{InstrAt}
use Rattle.sc_compiled_expressions.specs.Parts.{End, Family, Leading, Meets, followed}
use Rattle.sc_compiled_expressions.proofs.Joining.{leading_then}
use Rattle.sc_compiled_expressions.proofs.Moving.{MayGo, changing_means}
use Rattle.sc_compiled_expressions.proofs.Stores.{stores_one_way}
use Rattle.sc_compiled_expressions.proofs.Stores as machine
use Rattle.sc_compiled_expressions.specs.Standing.{AreOver, AreTargets, Home, IsWaiting, Keeps, LivesAt, MeansIn, Stands, StaysAbove, area_in, slots, stub, table, table_in}
use Rattle.sc_compiled_expressions.proofs.Standing.{memory_of}
use Rattle.sc_compiled_expressions.specs.Waits.{WordWaits}

four_bytes : (a off size base : ℕ) → off < size → base + off ≡ a → (a < base) ⊎ (base + size ≤ a) → ⊥
four_bytes a off size base lt is (inl low) = omega (arith, is, low)
four_bytes a off size base lt is (inr high) = omega (arith, lt, is, high)

module _ (home : Home) (most : ℕ) (s : Stage) (c : Calls) (w v : World) (st : Stands home s c w v) (rs base : ℕ) (offset : ℤ) (t : ℕ) (x : Value) (instr : InstrAt s.image c.regs.pc (Store Sw rs base offset)) (there : sum (register c.regs base).bits (bits_of offset) ≡ foot w + t)
    (even : t % 4 ≡ 0) (room : t + 4 ≤ home.cost) (under : IsBelow (slots home) t) (means : MeansIn w (register c.regs rs) x) where
  abbrev memory : Memory
  memory = st.frame.holds.memory

  abbrev m : Flat
  m = memory.flat

  abbrev a : ℕ
  a = foot w + t

  abbrev y : Word
  y = register c.regs rs

  abbrev pub behind : World
  behind = waiting a y w

  abbrev pub next : Registers
  next = machine.behind c.regs

  table_now : table w ≡ m.objects
  table_now = ap table_in st.frame.holds.there

  means_now : Means (stub w) m.objects y x
  means_now = subst (λ o. Means (stub w) o y x) table_now means

  aligned : aligned_place m a 4 ≡ Some (framed.place_there (slots home) home.cost home.env.blocks (stub w) w st.stubs st.frame t even room)
  aligned = framed.aligned (slots home) home.cost home.env.blocks (stub w) w st.stubs st.frame t even room

  bare : IsBare m.objects a
  bare = framed.bare (slots home) home.cost home.env.blocks (stub w) w st.stubs st.frame t even room under

  -- no object has the byte there
  not_inside : (id off : ℕ) → StandsAt w id off a → ⊥
  not_inside id off at =
      let b : IsByteOf m.objects id off a = subst (λ o. IfSome o (λ (q : Memory). IsByteOf q.flat.objects id off a)) st.frame.holds.there at in
      four_bytes a off b.0.size b.0.base b.2 b.3 (bare id b.0 b.1)

  is_kept : (z : Word) (u : World) → cells_of 4 z ≡ cells_of 4 y → StoresAt a 4 z w u → u ≡ behind
  is_kept z u e (BesideObjects can new) = new ∙ ap (λ cs. record w { beside = with_memory (λ (q : Memory). record { flat = written_at q.flat (place q.flat a 4) cs; blocks = q.blocks }) w.beside }) e
  is_kept z u e (InsideObject id off q live at by new) = absurd (not_inside id off at)
  is_kept z u e (OverItsEnd id off at short wr) = absurd (not_inside id off at)

  pub way : MayGo s c w next behind
  way how regs u ins =
      elim (stores_one_way s.image Sw rs base offset c.regs w (memory_of home s c w v st) instr _ (ap (λ b. aligned_place m b 4) there ∙ aligned) how regs u ins) [
        | inl none ↦ inl none
        | inr (went_on, is, (z, same, st_at)) ↦ inr (went_on, is, is_kept z u same (subst (λ b. StoresAt b 4 z w u) there st_at))
      ]

  -- ---- the memory behind it

  memory_now : behind.beside.memory ≡ Some (kept_in a 4 y memory)
  memory_now = ap (option_map (kept_in a 4 y)) st.frame.holds.there

  objects_kept : (put m a 4 y).objects ≡ m.objects
  objects_kept = framed.table_same m (place m a 4) (cells_of 4 y)

  table_same : table behind ≡ table w
  table_same = ap table_in memory_now ∙ objects_kept ∙ sym table_now

  long : length (cells_of 4 y) ≡ 4
  long = length_of_word 4 y (inr (inr refl))

  some_place : IsSome (place m a (length (cells_of 4 y)))
  some_place = subst (λ k. IsSome (place m a k)) (sym long) (subst (λ q. IsSome q) (sym (framed.place_is (slots home) home.cost home.env.blocks (stub w) w st.stubs st.frame t even room)) refl)

  put_is : put m a 4 y ≡ written_at m (place m a (length (cells_of 4 y))) (cells_of 4 y)
  put_is = ap (λ k. written_at m (place m a k) (cells_of 4 y)) (sym long)

  other_cell : (b : ℕ) → (b < a) ⊎ (a + 4 ≤ b) → cell_at (put m a 4 y) b ≡ cell_at m b
  other_cell b far =
      ap (λ (f : Flat). cell_at f b) put_is
      ∙ written-other (record { flat = m; blocks = st.frame.holds.words.held.blocks }) a b (cells_of 4 y) st.frame.holds.words.held.safe some_place (subst (λ k. (b < a) ⊎ (a + k ≤ b)) (sym long) far)

  bare_other : (b : ℕ) → IsBareAt w b → IsBareAt behind b
  bare_other b at =
      let old : IsBare m.objects b = subst (λ o. IfSome o (λ (q : Memory). IsBare q.flat.objects b)) st.frame.holds.there at in
      subst (λ o. IfSome o (λ (q : Memory). IsBare q.flat.objects b)) (sym memory_now) (subst (λ l. IsBare l b) (sym objects_kept) old)

  pub other_byte : (b : ℕ) → (b < a) ⊎ (a + 4 ≤ b) → IsBareAt w b → IsBareAt behind b × (stored_in behind.beside.memory b ≡ stored_in w.beside.memory b)
  other_byte b far at = (bare_other b at, ap (λ o. stored_in o b) memory_now ∙ other_cell b far ∙ sym (ap (λ o. stored_in o b) st.frame.holds.there))

  -- the word is there
  bare_four : (k : ℕ) → k < 4 → IsBare m.objects (a + k)
  bare_four k lt id p live = elim (st.frame.only id p live) [
    | inl low ↦ inr (omega (arith, low))
    | inr o ↦ elim o [
      | inl high ↦ inl (omega (arith, high, room, lt))
      | inr own ↦
          let further = under own.of.block own.index own.slot own.slotted in
          let at = own.base in
          inl (omega (arith, further, at, lt))
    ]
  ]

  here_cell : (k : ℕ) → k < 4 → (o : Option Stored) → slice_get (cells_of 4 y) k ≡ o → cell_at (put m a 4 y) (a + k) ≡ o
  here_cell k lt (Some q) e =
      ap (λ (f : Flat). cell_at f (a + k)) put_is
      ∙ written-here (record { flat = m; blocks = st.frame.holds.words.held.blocks }) a k (cells_of 4 y) q st.frame.holds.words.held.safe some_place e (subst (λ n. k < n) (sym long) lt)
  here_cell k lt None e = absurd (some_there (cells_of 4 y) k long lt e)
    where
      some_there : (cs : List Stored) (k : ℕ) → length cs ≡ 4 → k < 4 → slice_get cs k ≡ None → ⊥
      some_there [] k n lt e = omega (arith, n)
      some_there (d ∷ cs) zero n lt e = cc (e)
      some_there (d ∷ []) (suc k) n lt e = omega (arith, n)
      some_there (d ∷ f ∷ cs) (suc zero) n lt e = cc (e)
      some_there (d ∷ f ∷ []) (suc (suc k)) n lt e = omega (arith, n)
      some_there (d ∷ f ∷ g ∷ cs) (suc (suc zero)) n lt e = cc (e)
      some_there (d ∷ f ∷ g ∷ []) (suc (suc (suc k))) n lt e = omega (arith, n)
      some_there (d ∷ f ∷ g ∷ i ∷ cs) (suc (suc (suc zero))) n lt e = cc (e)
      some_there (d ∷ f ∷ g ∷ i ∷ cs) (suc (suc (suc (suc k)))) n lt e = omega (arith, lt)

  pub waits_there : WordWaits behind a y
  waits_there k lt = (
    subst (λ o. IfSome o (λ (q : Memory). IsBare q.flat.objects (a + k))) (sym memory_now) (subst (λ l. IsBare l (a + k)) (sym objects_kept) (bare_four k lt)),
    ap (λ o. stored_in o (a + k)) memory_now ∙ here_cell k lt (slice_get (cells_of 4 y) k) refl,
  )

  -- ---- the call stands as before

  lives_behind : (o at : ℕ) → LivesAt w o at → LivesAt behind o at
  lives_behind o at l = (l.0, subst (λ q. IsLive q o l.0) (sym table_same) l.1, l.2)

  targets_behind : AreTargets st.value home behind
  targets_behind = record {
    static = λ key o has e. lives_behind o _ (st.targets.static key o has e);
    literal = λ i bytes o has e f. lives_behind o _ (st.targets.literal i bytes o has e f);
    function = st.targets.function;
    numbered = st.targets.numbered;
  }

  pub alike_behind : Like behind v
  alike_behind = record { same = st.alike.same; shown = st.alike.shown }

  pub stands_behind : Stands home s (with_registers next c) behind v
  stands_behind = record {
    comes = st.comes;
    regs = st.regs;
    frame = framed.word_waits (slots home) home.cost home.env.blocks (stub w) w st.stubs st.frame t even room y x under means_now;
    sp = st.sp;
    above = st.above;
    stubs = st.stubs;
    opened = st.opened;
    took = st.took;
    starts = st.starts;
    alike = alike_behind;
    late = st.late;
    forms = st.forms;
    inner = st.inner;
    own = st.own;
    value = st.value;
    text = st.text;
    targets = targets_behind;
    fixed = st.fixed;
  }

  stack_kept : (put m a 4 y).stack ≡ m.stack
  stack_kept = framed.stack_same m (place m a 4) (cells_of 4 y)

  area_stays : area_in w.beside.memory ≤ area_in behind.beside.memory
  area_stays =
      let now = ap area_in memory_now ∙ stack_kept in
      let old = ap area_in st.frame.holds.there in
      omega (arith, now, old)

  pub words_behind : (z : Word) (u : Value) → MeansIn w z u → MeansIn behind z u
  words_behind z u p = subst (λ q. Means (stub w) q z u) (sym table_same) p

  pub objects_behind : (at : ℕ) → StaysAbove at w behind
  objects_behind at = record {
    lives = λ id o l le lt. subst (λ q. IsLive q id o) (sym table_same) l;
    only = λ id o l le lt. subst (λ q. IsLive q id o) table_same l;
    area = area_stays;
  }

  pub keeps_behind : (at : Spot) → at.low ≤ t → t + 4 ≤ home.room → Keeps home at c w (with_registers next c) behind
  keeps_behind at low fits = record {
    waits = λ j lt. refl;
    lower = refl;
    given = refl;
    words = words_behind;
    bytes = λ b wait at_b. other_byte b (apart b wait.1) at_b;
    objects = objects_behind (foot w + home.cost);
    callers = refl;
    foot = refl;
  }
    where
      apart : (b : ℕ) → (b < foot w + at.low) ⊎ (foot w + home.room ≤ b) → (b < a) ⊎ (a + 4 ≤ b)
      apart b (inl lt) = inl (omega (arith, lt, low))
      apart b (inr le) = inr (omega (arith, le, fits))

  -- what waits below
  below_kept : (r : Registers) → foot w + home.cost ≤ (register r 2).bits → waiting_below.Keeps r w behind
  below_kept r over = record {
    bytes = λ b le at. other_byte b (inr (omega (arith, over, le, room))) at;
    bases = λ id o e. (o, ap (λ k. object_in k id) memory_now ∙ ap (λ q. object_of q id) objects_kept ∙ sym (ap (λ k. object_in k id) st.frame.holds.there) ∙ e, refl);
    more = [];
    functions = sym (append-nil w.beside.functions);
  }

  pub waiting_kept : (ls : List Lower) → AreOver ls (foot w + home.cost) → KeepsWaiting ls w behind
  waiting_kept [] over = tt
  waiting_kept (InBodies cs sp depth ∷ ls) over = waiting_kept ls over
  waiting_kept (InCode r given ∷ ls) over = (below_kept r over.0, waiting_kept ls over.1)

  -- a place means what it means behind the store
  pub put_beside : {X : Type 0} (E : End X) (r : Family X) → Leading v r → Meets most s E (with_registers next c) behind v r → Meets most s E c w v r
  put_beside E r leads p = λ rest on n le after.
      changing_means s c next w behind v v (followed r rest) (followed r rest) way (leading_then v r rest leads on) (leading_then v r rest leads on) (here v) alike_behind
      (waiting_kept c.lower st.above) (λ h l m. refl) n (p rest on n le after)
