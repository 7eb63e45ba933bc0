-- A store inside a live object makes of a world what the meaning's store makes of it.
use Rattle.std.proofs.Common.{◌≡◌, ◌⊎◌, inl, inr, ℕ, ◌+◌, ◌-◌, ◌%◌, ◌<◌, ◌≤◌, ◌==◌, Bool, true, false, List, ◌∷◌, length, map, Option, Some, None, refl, sym, ap, subst, ◌∙◌, arith}
use Rattle.std.specs.Prelude.{IfSome, if◌then◌else◌, nat_le, option_map, take}
use Rattle.std.specs.Option.{IsSome}
use Rattle.std.proofs.lemmas.Bool.{cases_eq}
use Rattle.std.proofs.lemmas.Bool.Decides.{nat_tests}
use Rattle.std.proofs.lemmas.List.{length-map}
use Rattle.sc_base.specs.declared.key.Key.{Key}
use Rattle.sc_base.specs.declared.memory.Cell.{Cell as Stored}
use Rattle.sc_base.specs.declared.memory.Cell.TheVariants as stored
use Rattle.sc_base.specs.declared.memory.Word.{Word}
use Rattle.sc_types.specs.declared.ctype.CType.{CType, out-CType}
use Rattle.sc_types.specs.declared.ctype.CType.TheOpen.{CType-F}
use Rattle.sc_types.specs.declared.ctype.Signature.{Signature}
use Rattle.sc_objects.specs.declared.objects.Obj.{Obj}
use Rattle.sc_objects.specs.Numbered.{IsLive, object_of}
use Rattle.sc_mem.specs.Flat.{Flat, aligned_place, cell_at, place, put, written_at}
use Rattle.sc_mem.specs.Safe.{Store}
use Rattle.sc_mem.specs.Words as words
use Rattle.sc_mem.specs.Words.{IsSize}
use Rattle.sc_meaning.specs.Accesses.{set_at}
use Rattle.sc_meaning.specs.Beside.{put_in, stored_of, written_in}
use Rattle.sc_meaning.specs.Expressions.{Answer, base_of, further_of}
use Rattle.sc_meaning.specs.Values as values
use Rattle.sc_meaning.specs.Values.{Byte, Cell, FunctionAt, Number, Pointer, Unwritten, Value, layer_is_pointer, layer_size, scalar_size}
use Rattle.sc_meaning.specs.Violations.{is_constant, is_dead, is_misaligned, is_null, is_outside, is_plain, store_rule}
use Rattle.sc_meaning.specs.World.{Put, World, pass}
use Rattle.sc_services.specs.Memory.{IsBareAt, has_bytes, size_in}
use Rattle.sc_services.specs.Writing.{BesideObjects, InsideObject, IsStoredBy, OverItsEnd, StoresAt}
use Rattle.sc_mixed_means.specs.Waiting.{stored_in}
use Rattle.sc_mem_store.specs.Holding.{value_at}
use Rattle.sc_mem_store.specs.Living.{IsBare, IsByteOf}
use Rattle.sc_mem_store.proofs.Cells.{written-other}
use Rattle.sc_mem_store.proofs.Holding.{held-at}
use Rattle.sc_mem_store.proofs.Living.{length_of_word}
use Rattle.sc_compiled_frames.specs.Accesses.{Stores}
use Rattle.sc_compiled_frames.specs.Means.{IsWord, Means}
use Rattle.sc_compiled_frames.specs.Reached.{Reached}
use Rattle.sc_compiled_frames.specs.Stubs.{stub_of}
use Rattle.sc_compiled_frames.specs.Words.{AreStubs, HeldWords, IsOf}
use Rattle.sc_compiled_frames.specs.Worlds.{HoldsWords}
use Rattle.sc_compiled_frames.proofs.Loading.{layer_sized}
use Rattle.sc_compiled_frames.proofs.Reaching.{reached, store_tests}
use Rattle.sc_compiled_frames.proofs.Storing.{store_word}
use Rattle.sc_compiled_frames.proofs.Values.{value_is}
use Rattle.sc_compiled_expressions.proofs.WordsStored.{stored_are}

-- ---- words of the same cells are of values of the same cells

abbrev bits_in : List Stored → ℕ
bits_in (stored.Frag bits tag k ∷ cs) = bits
bits_in _ = 0

abbrev tag_in : List Stored → ℕ
tag_in (stored.Frag bits tag k ∷ cs) = tag
tag_in _ = 0

abbrev is_byte : List Stored → Bool
is_byte (stored.Byte b ∷ cs) = true
is_byte _ = false

abbrev byte_of : Stored → Cell
byte_of (stored.Byte b) = Byte b
byte_of _ = Unwritten

abbrev by_test : Bool → Word → List Stored
by_test t z = if (if t then false else true) then words.pieces_of z else map stored.Byte (take 4 (words.bytes_of z.bits))

numbers_same : (n b d : ℕ) → IsSize n → map stored.Byte (take n (words.bytes_of b)) ≡ map stored.Byte (take n (words.bytes_of d)) → values.cells_of n (Number b) ≡ values.cells_of n (Number d)
numbers_same n b d (inl s) e = subst (λ n. values.cells_of n (Number b) ≡ values.cells_of n (Number d)) (sym s) (ap (map byte_of) (subst (λ n. map stored.Byte (take n (words.bytes_of b)) ≡ map stored.Byte (take n (words.bytes_of d))) s e))
numbers_same n b d (inr (inl s)) e = subst (λ n. values.cells_of n (Number b) ≡ values.cells_of n (Number d)) (sym s) (ap (map byte_of) (subst (λ n. map stored.Byte (take n (words.bytes_of b)) ≡ map stored.Byte (take n (words.bytes_of d))) s e))
numbers_same n b d (inr (inr s)) e = subst (λ n. values.cells_of n (Number b) ≡ values.cells_of n (Number d)) (sym s) (ap (map byte_of) (subst (λ n. map stored.Byte (take n (words.bytes_of b)) ≡ map stored.Byte (take n (words.bytes_of d))) s e))

module _ (fs : List Key) (t : List Obj) where
  numbered : (z : Word) → (z.tag == 0) ≡ true → value_at fs t z.tag z.bits ≡ Number z.bits
  numbered z e = rw e refl

  by_tags : (z y : Word) (p q : Bool) → (z.tag == 0) ≡ p → (y.tag == 0) ≡ q → by_test p z ≡ by_test q y → values.cells_of 4 (value_at fs t z.tag z.bits) ≡ values.cells_of 4 (value_at fs t y.tag y.bits)
  by_tags z y true true p q e = ap (values.cells_of 4) (numbered z p) ∙ numbers_same 4 z.bits y.bits (inr (inr refl)) e ∙ ap (values.cells_of 4) (sym (numbered y q))
  by_tags z y false false p q e = ap (λ g. values.cells_of 4 (value_at fs t g z.bits)) (ap tag_in e) ∙ ap (λ b. values.cells_of 4 (value_at fs t y.tag b)) (ap bits_in e)
  by_tags z y true false p q e = absurd (cc (ap is_byte e))
  by_tags z y false true p q e = absurd (cc (ap is_byte e))

whole_or_plain : (n : ℕ) (v : Value) → IsSize n → (n ≡ 4) ⊎ (is_plain v ≡ true) → (n ≡ 4) ⊎ (((n ≡ 1) ⊎ (n ≡ 2)) × ((k : ℕ) × (v ≡ Number k)))
whole_or_plain n v size (inl e) = inl e
whole_or_plain n v (inr (inr e)) (inr p) = inl e
whole_or_plain n (Number k) (inl e) (inr p) = inr (inl e, (k, refl))
whole_or_plain n (Number k) (inr (inl e)) (inr p) = inr (inr e, (k, refl))
whole_or_plain n (FunctionAt k) size (inr p) = absurd (cc (p))
whole_or_plain n (Pointer o i) size (inr p) = absurd (cc (p))

-- ---- what a type's size says

pointer_sized : (l : CType-F CType Signature) → layer_is_pointer l ≡ true → layer_size l ≡ 4
pointer_sized (CType-F.Void c) e = absurd (cc (e))
pointer_sized (CType-F.Int i c) e = absurd (cc (e))
pointer_sized (CType-F.Pointer p c) e = refl
pointer_sized (CType-F.Array t n) e = absurd (cc (e))
pointer_sized (CType-F.Struct s c) e = absurd (cc (e))
pointer_sized (CType-F.Function s) e = absurd (cc (e))

pub sized : (ty : CType) (v : Value) → IsOf ty v → (scalar_size ty ≡ 4) ⊎ (is_plain v ≡ true)
sized ty v (inl e) = inl (pointer_sized (out-CType ty) e)
sized ty v (inr e) = inr e

no_overlap : (pb ps qb qs off at n x : ℕ) → x ≡ qb + at → at + n ≤ qs → 0 < n → off < ps → pb + off ≡ x → (pb + ps < qb) ⊎ (qb + qs < pb) → ⊥
no_overlap pb ps qb qs off at n x there inside some lt e (inl far) = omega (arith, there, inside, some, lt, e, far)
no_overlap pb ps qb qs off at n x there inside some lt e (inr far) = omega (arith, there, inside, some, lt, e, far)

one_object : (p q : Obj) → Some p ≡ Some q → p ≡ q
one_object p q e = cc (e)

module _ (w : World) (h : HoldsWords w) (are : AreStubs w.beside.functions (stub_of w.beside.functions)) (ty : CType) (a : Answer) (x y : Word) (v : Value) (scalar : 0 < scalar_size ty)
    (word : IsWord (stub_of w.beside.functions) h.memory.flat.objects a x) (means : Means (stub_of w.beside.functions) h.memory.flat.objects y v) (of : IsOf ty v)
    (rule : store_rule w.objects (base_of a) (further_of a) (scalar_size ty) ≡ None) where
  abbrev pub fs : List Key
  fs = w.beside.functions

  abbrev pub m : Flat
  m = h.memory.flat

  abbrev pub n : ℕ
  n = scalar_size ty

  abbrev pub further : ℕ
  further = further_of a

  tests : (is_null (base_of a) ≡ false) × (is_dead w.objects (base_of a) ≡ false) × (is_outside w.objects (base_of a) further n ≡ false) × (is_misaligned (base_of a) further n ≡ false) × (is_constant w.objects (base_of a) ≡ false)
  tests = store_tests (is_null (base_of a)) (is_dead w.objects (base_of a)) (is_outside w.objects (base_of a) further n) (is_misaligned (base_of a) further n) (is_constant w.objects (base_of a)) rule

  pub r : Reached m.objects (base_of a) further n x
  r = reached (stub_of fs) fs w.objects m h.words.held.holds h.words.seated n x a word tests.0 tests.1 tests.2

  abbrev pub id : ℕ
  id = r.id

  abbrev pub at : ℕ
  at = r.offset + further

  abbrev pub ds : List Cell
  ds = values.cells_of n v

  abbrev pub p : Obj
  p = r.object

  size : IsSize n
  size = layer_sized (out-CType ty) scalar

  whole : (n ≡ 4) ⊎ (is_plain v ≡ true)
  whole = sized ty v of

  -- the world behind it
  abbrev pub behind : World
  behind = pass (Put id at ds) w

  pub behind_is : set_at (base_of a) further n v w ≡ behind
  behind_is = ap (λ b. set_at b further n v w) r.into

  -- ---- no other store is one of this word

  bare_not : IsBareAt w x.bits → ⊥
  bare_not bare =
      let b : IsBare m.objects x.bits = subst (λ o. IfSome o (λ q. IsBare q.flat.objects x.bits)) h.there bare in
      let there = r.there in
      let inside = r.inside in
      elim (b id p r.live) [ inl lt ↦ omega (arith, lt, there) | inr le ↦ omega (arith, le, there, inside, scalar) ]

  abbrev Found : ℕ → ℕ → Type 0
  Found other off = (other ≡ id) × (off ≡ at)

  found : (other off : ℕ) (q : Obj) → IsLive m.objects other q → off < q.size → q.base + off ≡ x.bits → Found other off
  found other off q live lt e =
      elim (cases_eq other id) [
        | inl same ↦
            let one : q ≡ p = one_object q p (sym live.0 ∙ ap (object_of m.objects) same ∙ r.live.0) in
            let there = r.there in
            let base = ap (λ (o : Obj). o.base) one in
            (same, omega (arith, there, base, e))
        | inr ne ↦ absurd (no_overlap q.base q.size p.base p.size off at n x.bits r.there r.inside scalar lt e (h.words.held.safe.apart other id q p live r.live ne))
      ]

  stands_found : (other off : ℕ) → IfSome w.beside.memory (λ k. IsByteOf k.flat.objects other off x.bits) → Found other off
  stands_found other off st = let b : IsByteOf m.objects other off x.bits = subst (λ o. IfSome o (λ k. IsByteOf k.flat.objects other off x.bits)) h.there st in found other off b.0 b.1 b.2 b.3

  same_cells : (z : Word) (u : Value) → words.cells_of n z ≡ words.cells_of n y → IsStoredBy (n == 4) z w u → values.cells_of n u ≡ ds
  same_cells z u e st = by_size (whole_or_plain n v size whole)
    where
      four : n ≡ 4 → values.cells_of n u ≡ ds
      four s =
          let given : IsStoredBy true z w u = subst (λ k. IsStoredBy (k == 4) z w u) s st in
          let is : u ≡ value_at fs m.objects z.tag z.bits = subst (λ o. IfSome o (λ q. u ≡ value_at fs q.flat.objects z.tag z.bits)) h.there given in
          let cells : by_test (z.tag == 0) z ≡ by_test (y.tag == 0) y = subst (λ k. words.cells_of k z ≡ words.cells_of k y) s e in
          subst (λ k. values.cells_of k u ≡ values.cells_of k v) (sym s)
          (ap (values.cells_of 4) is ∙ by_tags fs m.objects z y (z.tag == 0) (y.tag == 0) refl refl cells ∙ ap (values.cells_of 4) (value_is fs (stub_of fs) m.objects y v are h.words.seated means.wide means.stands))

      few : (k : ℕ) → (k ≡ 1) ⊎ (k ≡ 2) → words.cells_of k z ≡ words.cells_of k y → IsStoredBy (k == 4) z w u → (j : ℕ) → v ≡ Number j → values.cells_of k u ≡ values.cells_of k v
      few k (inl s) f g j is =
          let bits : y.bits ≡ j = (subst (λ q. Means (stub_of fs) m.objects y q) is means).stands.0 in
          let f1 : words.cells_of 1 z ≡ words.cells_of 1 y = subst (λ k. words.cells_of k z ≡ words.cells_of k y) s f in
          let g1 : u ≡ Number z.bits = subst (λ k. IsStoredBy (k == 4) z w u) s g in
          subst (λ k. values.cells_of k u ≡ values.cells_of k v) (sym s) (ap (values.cells_of 1) g1 ∙ numbers_same 1 z.bits y.bits (inl refl) f1 ∙ ap (λ b. values.cells_of 1 (Number b)) bits ∙ ap (values.cells_of 1) (sym is))
      few k (inr s) f g j is =
          let bits : y.bits ≡ j = (subst (λ q. Means (stub_of fs) m.objects y q) is means).stands.0 in
          let f2 : words.cells_of 2 z ≡ words.cells_of 2 y = subst (λ k. words.cells_of k z ≡ words.cells_of k y) s f in
          let g2 : u ≡ Number z.bits = subst (λ k. IsStoredBy (k == 4) z w u) s g in
          subst (λ k. values.cells_of k u ≡ values.cells_of k v) (sym s) (ap (values.cells_of 2) g2 ∙ numbers_same 2 z.bits y.bits (inr (inl refl)) f2 ∙ ap (λ b. values.cells_of 2 (Number b)) bits ∙ ap (values.cells_of 2) (sym is))

      by_size : (n ≡ 4) ⊎ (((n ≡ 1) ⊎ (n ≡ 2)) × ((k : ℕ) × (v ≡ Number k))) → values.cells_of n u ≡ ds
      by_size (inl s) = four s
      by_size (inr (s, (j, is))) = few n s e st j is

  not_over : (other off : ℕ) → Found other off → has_bytes w.objects other off n ≡ false → ⊥
  not_over other off f e =
      let (o, there, held) = held-at w.objects m fs id p h.words.held.holds r.live.0 in
      let here : has_bytes w.objects id at n ≡ false = subst (λ k. has_bytes w.objects id k n ≡ false) f.1 (subst (λ k. has_bytes w.objects k off n ≡ false) f.0 e) in
      let some : nat_le (at + n) o.size ≡ false = subst (λ q. nat_le (at + n) (size_in q) ≡ false) there here in
      short at n o.size p.size r.inside held.size some
    where
      short : (at n os ps : ℕ) → at + n ≤ ps → ps ≡ os → nat_le (at + n) os ≡ false → ⊥
      short at n os ps le e f = grind (arith, nat_tests, le, e, f)

  pub is_put : (z : Word) (u : World) → words.cells_of n z ≡ words.cells_of n y → StoresAt x.bits n z w u → u ≡ behind
  is_put z u e (BesideObjects can new) = absurd (bare_not can.1)
  is_put z u e (InsideObject other off q live st by new) =
      let f = stands_found other off st in
      new ∙ ap (λ k. pass (Put k off (values.cells_of n q)) w) f.0 ∙ ap (λ k. pass (Put id k (values.cells_of n q)) w) f.1 ∙ ap (λ cs. pass (Put id at cs) w) (same_cells z q e by)
  is_put z u e (OverItsEnd other off st short wr) = absurd (not_over other off (stands_found other off st) short)

  -- ---- the memory behind it

  pub stores : Stores fs m (put m x.bits n y) x.bits n (set_at (base_of a) further n v w).objects
  stores = store_word fs (stub_of fs) are m w h.words ty a x y v scalar word means of rule

  pub there : aligned_place m x.bits n ≡ Some stores.at
  there = stores.there

  cells : map (stored_of fs m.objects) ds ≡ words.cells_of n y
  cells = stored_are fs m.objects n y v h.words.seated size whole means

  long : length ds ≡ n
  long = sym (length-map ds (stored_of fs m.objects)) ∙ ap length cells ∙ length_of_word n y size

  abbrev pub now : Store
  now = put_in fs id at ds h.memory

  flat_is : now.flat ≡ put m x.bits n y
  flat_is =
      ap (written_in fs at ds m) r.live.0
      ∙ ap (λ k. written_at m (place m (p.base + at) k) (map (stored_of fs m.objects) ds)) long
      ∙ ap (λ cs. written_at m (place m (p.base + at) n) cs) cells
      ∙ ap (λ b. written_at m (place m b n) (words.cells_of n y)) (sym r.there)

  pub table_is : now.flat.objects ≡ m.objects
  table_is = ap (λ (f : Flat). f.objects) flat_is ∙ stores.table

  pub stack_is : now.flat.stack ≡ m.stack
  stack_is = ap (λ (f : Flat). f.stack) flat_is ∙ stores.stack

  pub memory_is : behind.beside.memory ≡ Some now
  memory_is = ap (option_map (put_in fs id at ds)) h.there

  pub words_now : HeldWords w.beside.functions now.flat behind.objects
  words_now = subst (λ f. HeldWords fs f behind.objects) (sym flat_is) (subst (λ (u : World). HeldWords fs (put m x.bits n y) u.objects) behind_is stores.holds)

  -- what stands beside all objects stays
  apart : (b : ℕ) → IsBare m.objects b → (b < p.base + at) ⊎ (p.base + at + length (words.cells_of n y) ≤ b)
  apart b bare =
      let inside = r.inside in
      let k = length_of_word n y size in
      elim (bare id p r.live) [ inl lt ↦ inl (omega (arith, lt)) | inr le ↦ inr (omega (arith, le, inside, k)) ]

  some_place : IsSome (place m (p.base + at) (length (words.cells_of n y)))
  some_place =
      subst (λ k. IsSome (place m (p.base + at) k)) (sym (length_of_word n y size)) (subst (λ b. IsSome (place m b n)) r.there (is_some_place (x.bits % n == 0) (place m x.bits n) stores.at stores.there))
    where
      is_some_place : (t : Bool) (o : Option ℕ) (k : ℕ) → (if t then o else None) ≡ Some k → IsSome o
      is_some_place true o k e = subst (λ q. IsSome q) (sym e) refl
      is_some_place false o k e = absurd (cc (e))

  pub cell_stays : (b : ℕ) → IsBare m.objects b → cell_at now.flat b ≡ cell_at m b
  cell_stays b bare =
      ap (λ (f : Flat). cell_at f b) (flat_is ∙ ap (λ k. written_at m (place m k n) (words.cells_of n y)) r.there ∙ ap (λ k. written_at m (place m (p.base + at) k) (words.cells_of n y)) (sym (length_of_word n y size)))
      ∙ written-other (record { flat = m; blocks = h.words.held.blocks }) (p.base + at) b (words.cells_of n y) h.words.held.safe some_place (apart b bare)

  pub bare_stays : (b : ℕ) → IsBareAt w b → IsBareAt behind b × (stored_in behind.beside.memory b ≡ stored_in w.beside.memory b)
  bare_stays b bare =
      let old : IsBare m.objects b = subst (λ o. IfSome o (λ q. IsBare q.flat.objects b)) h.there bare in
      let new : IsBare now.flat.objects b = subst (λ l. IsBare l b) (sym table_is) old in (
        subst (λ o. IfSome o (λ q. IsBare q.flat.objects b)) (sym memory_is) new,
        ap (λ o. stored_in o b) memory_is ∙ cell_stays b old ∙ sym (ap (λ o. stored_in o b) h.there),
      )
