-- The load at a place without code, and the words that convert what it read.
use Rattle.std.proofs.Common.{◌≡◌, ◌⊎◌, inl, inr, ℕ, zero, suc, ◌+◌, ◌-◌, ◌*◌, ◌%◌, ◌^◌, ◌<◌, ◌≤◌, ◌==◌, ◌||◌, Bool, true, false, if◌then◌else◌, ℤ, pos, List, [], ◌∷◌, ◌++◌, length, Option, Some, None, refl, sym, ap, subst, ◌∙◌, arith}
use Rattle.std.specs.Prelude.{slice_index_or}
use Rattle.sc_base.specs.declared.integer.Int.{Int}
use Rattle.sc_base.specs.declared.integer.Int.TheVariants as int
use Rattle.sc_base.specs.declared.memory.Word.{Word}
use Rattle.sc_base.specs.declared.report.Rule.{Rule}
use Rattle.sc_isa.specs.declared.instruction.LoadOp.{LoadOp}
use Rattle.sc_isa.specs.declared.instruction.ImmOp.{ImmOp}
use Rattle.sc_isa.specs.declared.instruction.ImmOp.TheVariants as imm
use Rattle.sc_types.specs.declared.ctype.CType.{CType, out-CType}
use Rattle.sc_types.specs.declared.ctype.CType.TheOpen.{CType-F}
use Rattle.sc_types.specs.declared.ctype.Signature.{Signature}
use Rattle.sc_types.specs.Compatibility.{same_int}
use Rattle.sc_mem.specs.Flat.{Flat, raw_read}
use Rattle.sc_emu.specs.Operations.{bits_of, load_size, plain, with_constant}
use Rattle.sc_emu.specs.Operations as emu
use Rattle.sc_emu.specs.Registers.{AreRegisters, Registers, register, with_word}
use Rattle.sc_meaning.specs.Accesses.{as_type, converted_value, loaded}
use Rattle.sc_meaning.specs.Expressions.{Answer, base_of, further_of}
use Rattle.sc_meaning.specs.Integers.{IsNumber}
use Rattle.sc_meaning.specs.Laws.{Leads}
use Rattle.sc_meaning.specs.Outcomes.{Breach, Done, access_breach, unless, world_after}
use Rattle.sc_meaning.specs.Values.{FunctionAt, Number, Pointer, Value, int_of, is_pointer_type, layer_int, layer_is_pointer, scalar_size, value_of_cells}
use Rattle.sc_meaning.specs.Violations.{cells_read, is_plain, load_rule}
use Rattle.sc_meaning.specs.World.{World}
use Rattle.sc_meaning.proofs.Steps.{here}
use Rattle.sc_objects.specs.declared.objects.Obj.{Obj}
use Rattle.sc_mixed.specs.Bridge.{with_registers}
use Rattle.sc_mixed.specs.declared.calls.Calls.{Calls}
use Rattle.sc_mixed_means.specs.Stages.{Stage}
use Rattle.sc_gen_code.specs.declared.symbolic.Access.TheVariants as access
use Rattle.sc_gen_code.specs.Code.{Code}
use Rattle.sc_gen_code.specs.Operators.{convert, is_free, is_word, machine_level, machine_type, narrowed, reconvert}
use Rattle.sc_compiled_values.specs.Straight.{IsFile, Words, after, with}
use Rattle.sc_compiled_frames.specs.Accesses.{IsCanonical, IsNumberOf, Reads}
use Rattle.sc_compiled_frames.specs.Conversions.{by_constants, narrowing, renarrowing}
use Rattle.sc_compiled_frames.specs.Means.{IsWord, Means}
use Rattle.sc_compiled_frames.specs.Words.{IsOf}
use Rattle.sc_compiled_frames.proofs.Converting.{number_canonical, word_canonical}
use Rattle.sc_compiled_frames.proofs.Loading.{load_word}
use Rattle.sc_compiled_expressions.specs.Parts.{End, Meets}
use Rattle.sc_compiled_expressions.proofs.Behind.{behind_load}
use Rattle.sc_compiled_expressions.proofs.Joining.{at_once, undefined_here}
use Rattle.sc_compiled_expressions.specs.Standing.{Home, MeansIn, Stands, stub, table, table_in}
use Rattle.sc_compiled_expressions.proofs.Standing.{memory_of, own_step, stands_with}
use Rattle.sc_compiled_expressions.specs.Straights.{AreStraight}
use Rattle.sc_compiled_expressions.proofs.Registers.{zero_there}
use Rattle.sc_compiled_expressions.proofs.Numbers.{index_zero}
use Rattle.sc_compiled_values.proofs.Loading.{mixed_number, unmixed}
use Rattle.sc_compiled_expressions.specs.Direct.{AtAccess, Fetched, IsFree, IsTyped}
use Rattle.sc_compiled_expressions.proofs.Reaching.{kept}
use Rattle.sc_compiled_values.proofs.Steps.{file_with}

-- ---- a word in a free register

pub put_there : (r : ℕ) (f : Words) (x : Word) → IsFree r → with f r x r ≡ x
put_there r f x free = by_tests (r == 0) (r == r) (f r) x free.zero (same r)
  where
    by_tests : (a b : Bool) (y z : Word) → a ≡ false → b ≡ true → (if a then y else if b then z else y) ≡ z
    by_tests true b y z e f = absurd (cc (e))
    by_tests false true y z e f = refl
    by_tests false false y z e f = absurd (cc (f))

    same : (n : ℕ) → (n == n) ≡ true
    same n = grind (arith, Rattle.std.proofs.lemmas.Bool.Decides.nat_tests)

other_way : (r k : ℕ) → (r == k) ≡ false → (k == r) ≡ false
other_way r k e = grind (arith, Rattle.std.proofs.lemmas.Bool.Decides.nat_tests, e)

pub not_zero : (r : ℕ) → IsFree r → (0 == r) ≡ false
not_zero r free = other_way r 0 free.zero

pub not_sp : (r : ℕ) → IsFree r → (2 == r) ≡ false
not_sp r free = other_way r 2 free.sp

pub registers_of : (zs : List Word) (f : Words) → IsFile zs f → f 0 ≡ plain 0 → AreRegisters zs
registers_of zs f file z = record { count = file.count; zero = zero_there zs file.count (file.each 0 (omega arith) ∙ z) }

-- ---- values of a type

plain_stays : (l : CType-F CType Signature) (v : Value) → IsNumber v → is_plain (if layer_is_pointer l then v else converted_value (layer_int l) v) ≡ true
plain_stays l (Number n) h = by_test (layer_is_pointer l)
  where
    by_test : (b : Bool) → is_plain (if b then Number n else converted_value (layer_int l) (Number n)) ≡ true
    by_test true = refl
    by_test false = refl
plain_stays l (FunctionAt k) h = absurd h
plain_stays l (Pointer o i) h = absurd h

canonical_layer : (f : _) (t : List Obj) (l : CType-F CType Signature) (x : Word) (v : Value) → Means f t x (if layer_is_pointer l then v else converted_value (layer_int l) v) → IsNumberOf (layer_int l) (if layer_is_pointer l then v else converted_value (layer_int l) v)
canonical_layer f t (CType-F.Void c) x v h = number_canonical int.UInt v
canonical_layer f t (CType-F.Int i c) x v h = number_canonical i v
canonical_layer f t (CType-F.Pointer p c) x v h = word_canonical f t x v h
canonical_layer f t (CType-F.Array e n) x v h = number_canonical int.UInt v
canonical_layer f t (CType-F.Struct s c) x v h = number_canonical int.UInt v
canonical_layer f t (CType-F.Function s) x v h = number_canonical int.UInt v

-- ---- the load

module _ (home : Home) (most : ℕ) (s : Stage) (c q : Calls) (w v : World) (st : Stands home s c w v) (op : LoadOp) (r : ℕ) (ty : CType) (a : Answer) (x : Word) (end : ℕ) (at : AtAccess s (access.Load op r) x.bits end c q)
    (free : IsFree r) (word : IsWord (stub w) (table w) a x) (reads : Reads op (out-CType ty)) (some : 0 < scalar_size ty) where
  abbrev pub E : End Value
  E t z u d y = Fetched home r end c w t z u d y × IsTyped ty z

  abbrev m : Flat
  m = st.frame.holds.memory.flat

  table_is : table w ≡ m.objects
  table_is = ap table_in st.frame.holds.there

  word_now : IsWord (stub w) m.objects a x
  word_now = subst (λ t. IsWord (stub w) t a x) table_is word

  objects_same : w.objects ≡ v.objects
  objects_same = ap (λ (u : World). u.objects) st.alike.same

  stands_here : Stands home s q w v
  stands_here = subst (λ k. Stands home s k w v) (sym at.rest) (stands_with home s c q.regs w v at.regs (at.same 2 (omega arith) refl) st)

  abbrev rule_of : Option Rule
  rule_of = load_rule v.objects (base_of a) (further_of a) (scalar_size ty) (is_pointer_type ty)

  abbrev raw : Value
  raw = value_of_cells (cells_read v.objects (base_of a) (further_of a) (scalar_size ty))

  module _ (rule : rule_of ≡ None) where
    got : (z : Word) × (raw_read m x.bits (load_size op) ≡ Some z) × Means (stub w) m.objects (emu.loaded op z) (as_type ty raw)
    got =
        let g = load_word w.beside.functions (stub w) st.stubs m w.objects st.frame.holds.words op ty a x reads some word_now (ap (λ os. load_rule os (base_of a) (further_of a) (scalar_size ty) (is_pointer_type ty)) objects_same ∙ rule) in (
          g.0,
          g.1,
          subst (λ os. Means (stub w) m.objects (emu.loaded op g.0) (as_type ty (value_of_cells (cells_read os (base_of a) (further_of a) (scalar_size ty))))) objects_same g.2,
        )

    abbrev z : Word
    z = emu.loaded op got.0

    abbrev after_it : Registers
    after_it = record { pc = q.regs.pc + 4; words = with_word q.regs.words r z }

    file_now : IsFile (with_word q.regs.words r z) (with (register q.regs) r z)
    file_now = file_with q.regs.words (register q.regs) r z free.small (record { count = at.regs.count; each = λ n lt. refl })

    are_now : AreRegisters (with_word q.regs.words r z)
    are_now = registers_of (with_word q.regs.words r z) (with (register q.regs) r z) file_now (kept r (register q.regs) z 0 (not_zero r free) ∙ index_zero q.regs.words at.regs)

    value_is : MeansIn w (register after_it r) (as_type ty raw)
    value_is = subst (λ k. MeansIn w k (as_type ty raw)) (sym (file_now.each r free.small ∙ put_there r (register q.regs) z free)) (subst (λ t. Means (stub w) t z (as_type ty raw)) (sym table_is) got.2)

    of_type : (b : Bool) → is_pointer_type ty ≡ b → IsOf ty (as_type ty raw)
    of_type true e = inl e
    of_type false e = inr (plain_stays (out-CType ty) raw (mixed_number (is_pointer_type ty) (cells_read v.objects (base_of a) (further_of a) (scalar_size ty)) e (unmixed v (base_of a) (further_of a) (scalar_size ty) (is_pointer_type ty) rule)))

    fetched_now : Fetched home r end c w s (as_type ty raw) v (with_registers after_it q) w
    fetched_now = record {
      there = at.last;
      world = refl;
      word = value_is;
      stands = stands_with home s q after_it w v are_now (file_now.each 2 (omega arith) ∙ kept r (register q.regs) z 2 (not_sp r free)) stands_here;
      same = λ j lt e f. file_now.each j lt ∙ kept r (register q.regs) z j f ∙ at.same j lt e;
      rest = ap (with_registers after_it) at.rest;
    }

    reads_it : Meets most s E q w v (λ h m. Done (as_type ty raw) v)
    reads_it =
        behind_load most s st.value E op r at.base at.offset q w v got.0 (λ h m. Done (as_type ty raw) v) (memory_of home s c w v st) at.instr
        (ap (λ b. raw_read m b (load_size op)) at.there ∙ got.1) (λ h m. here v)
        (at_once most s E (with_registers after_it q) w v (λ h m. Done (as_type ty raw) v) (as_type ty raw) (λ h m. refl)
        (fetched_now, record { canonical = canonical_layer (stub w) (table w) (out-CType ty) (register after_it r) raw value_is; of = of_type (is_pointer_type ty) refl }))

  by_rule : (o : Option Rule) → rule_of ≡ o → Meets most s E q w v (λ h m. unless o (access_breach (base_of a) (further_of a) (scalar_size ty) v) (λ u. Done (as_type ty (value_of_cells (cells_read u.objects (base_of a) (further_of a) (scalar_size ty)))) u) v)
  by_rule None rule = reads_it rule
  by_rule (Some k) rule =
      undefined_here most s E q w v (λ h m. unless (Some k) (access_breach (base_of a) (further_of a) (scalar_size ty) v) (λ u. Done (as_type ty (value_of_cells (cells_read u.objects (base_of a) (further_of a) (scalar_size ty)))) u) v) (access_breach (base_of a) (further_of a) (scalar_size ty) v k)
      (own_step (access_breach (base_of a) (further_of a) (scalar_size ty) v k) v st.own) (λ h m. refl)

  pub load_meets : Meets most s E q w v (λ h m. loaded ty (base_of a) (further_of a) v)
  load_meets = by_rule rule_of refl

-- ---- conversions of what is in a register

pub machine_is : (l : CType-F CType Signature) → machine_level l ≡ layer_int l
machine_is (CType-F.Void c) = refl
machine_is (CType-F.Int i c) = refl
machine_is (CType-F.Pointer p c) = refl
machine_is (CType-F.Array e n) = refl
machine_is (CType-F.Struct s c) = refl
machine_is (CType-F.Function s) = refl

module _ (r : ℕ) (free : IsFree r) where
  one : (o : ImmOp) (z : ℤ) (f : Words) → with f r (with_constant o (f r) (bits_of z)) r ≡ with_constant o (f r) (bits_of z)
  one o z f = put_there r f (with_constant o (f r) (bits_of z)) free

  two : (o p : ImmOp) (z y : ℤ) (f : Words) → with (with f r (with_constant o (f r) (bits_of z))) r (with_constant p (with f r (with_constant o (f r) (bits_of z)) r) (bits_of y)) r ≡ with_constant p (with_constant o (f r) (bits_of z)) (bits_of y)
  two o p z y f = one p y (with f r (with_constant o (f r) (bits_of z))) ∙ ap (λ k. with_constant p k (bits_of y)) (one o z f)

  pub narrowed_does : (i : Int) (f : Words) → after (narrowed i r) f r ≡ by_constants (narrowing i) (f r)
  narrowed_does int.Char f = one imm.Andi (pos 255) f
  narrowed_does int.UChar f = one imm.Andi (pos 255) f
  narrowed_does int.SChar f = two imm.Slli imm.Srai (pos 24) (pos 24) f
  narrowed_does int.Short f = two imm.Slli imm.Srai (pos 16) (pos 16) f
  narrowed_does int.UShort f = two imm.Slli imm.Srli (pos 16) (pos 16) f
  narrowed_does int.Int f = refl
  narrowed_does int.UInt f = refl
  narrowed_does int.Long f = refl
  narrowed_does int.ULong f = refl

  two_kept : (f : Words) (x y : Word) (j : ℕ) → (j == r) ≡ false → with (with f r x) r y j ≡ f j
  two_kept f x y j e = kept r (with f r x) y j e ∙ kept r f x j e

  pub narrowed_keeps : (i : Int) (f : Words) (j : ℕ) → (j == r) ≡ false → after (narrowed i r) f j ≡ f j
  narrowed_keeps int.Char f j e = kept r f _ j e
  narrowed_keeps int.UChar f j e = kept r f _ j e
  narrowed_keeps int.SChar f j e = two_kept f _ _ j e
  narrowed_keeps int.Short f j e = two_kept f _ _ j e
  narrowed_keeps int.UShort f j e = two_kept f _ _ j e
  narrowed_keeps int.Int f j e = refl
  narrowed_keeps int.UInt f j e = refl
  narrowed_keeps int.Long f j e = refl
  narrowed_keeps int.ULong f j e = refl

  pub narrowed_straight : (i : Int) → AreStraight (narrowed i r)
  narrowed_straight int.Char = ((free.small, free.small), tt)
  narrowed_straight int.UChar = ((free.small, free.small), tt)
  narrowed_straight int.SChar = ((free.small, free.small), ((free.small, free.small), tt))
  narrowed_straight int.Short = ((free.small, free.small), ((free.small, free.small), tt))
  narrowed_straight int.UShort = ((free.small, free.small), ((free.small, free.small), tt))
  narrowed_straight int.Int = tt
  narrowed_straight int.UInt = tt
  narrowed_straight int.Long = tt
  narrowed_straight int.ULong = tt

  no_words : (i : Int) → is_word i ≡ true → narrowing i ≡ []
  no_words int.Int e = refl
  no_words int.UInt e = refl
  no_words int.Long e = refl
  no_words int.ULong e = refl
  no_words int.Char e = absurd (cc (e))
  no_words int.SChar e = absurd (cc (e))
  no_words int.UChar e = absurd (cc (e))
  no_words int.Short e = absurd (cc (e))
  no_words int.UShort e = absurd (cc (e))

  by_free : (a b : Bool) (i : Int) (f : Words) → is_word i ≡ b → after (if a || b then [] else narrowed i r) f r ≡ by_constants (if a then [] else narrowing i) (f r)
  by_free true b i f e = refl
  by_free false true i f e = ap (λ l. by_constants l (f r)) (sym (no_words i e))
  by_free false false i f e = narrowed_does i f

  pub reconvert_does : (from to : CType) (f : Words) → after (reconvert from to r) f r ≡ by_constants (renarrowing (int_of from) (int_of to)) (f r)
  reconvert_does from to f =
      by_free (same_int (machine_type from) (machine_type to)) (is_word (machine_type to)) (machine_type to) f refl
      ∙ ap (λ i. by_constants (renarrowing i (machine_type to)) (f r)) (machine_is (out-CType from)) ∙ ap (λ i. by_constants (renarrowing (int_of from) i) (f r)) (machine_is (out-CType to))

  pub reconvert_keeps : (from to : CType) (f : Words) (j : ℕ) → (j == r) ≡ false → after (reconvert from to r) f j ≡ f j
  reconvert_keeps from to f j e = by (is_free from to)
    where
      by : (b : Bool) → after (if b then [] else convert to r) f j ≡ f j
      by true = refl
      by false = narrowed_keeps (machine_type to) f j e

  pub reconvert_straight : (from to : CType) → AreStraight (reconvert from to r)
  reconvert_straight from to = by (is_free from to)
    where
      by : (b : Bool) → AreStraight (if b then [] else convert to r)
      by true = tt
      by false = narrowed_straight (machine_type to)
