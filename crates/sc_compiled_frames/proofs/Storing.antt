-- A store at an address that no rule forbids: the cells of the register's word are those of the value, and memory holds what the meaning has then.
use Rattle.std.proofs.Common.{◌≡◌, ◌≢◌, ◌⊎◌, inl, inr, ℕ, zero, suc, ◌+◌, ◌/◌, ◌%◌, ◌^◌, ◌<◌, ◌==◌, ◌&&◌, Bool, true, false, cond, List, [], ◌∷◌, length, map, take, Some, None, refl, sym, ap, subst, ◌∙◌, arith}
use Rattle.std.specs.List.{list_any, slice_get}
use Rattle.std.proofs.lemmas.Bool.Decides.{nat_tests}
use Rattle.sc_base.specs.declared.key.Key.{Key}
use Rattle.sc_base.specs.declared.memory.Cell.{Cell as Stored}
use Rattle.sc_base.specs.declared.memory.Cell.TheVariants.{Byte as Octet, Frag}
use Rattle.sc_base.specs.declared.memory.Word.{Word}
use Rattle.sc_types.specs.declared.ctype.CType.{CType, out-CType}
use Rattle.sc_types.specs.declared.ctype.CType.TheOpen.{CType-F}
use Rattle.sc_types.specs.declared.ctype.Signature.{Signature}
use Rattle.sc_cells.specs.Range.{with_range}
use Rattle.sc_objects.specs.declared.objects.Obj.{Obj}
use Rattle.sc_mem.specs.Flat.{Flat, place, aligned_place, put, written_at}
use Rattle.sc_mem.specs.Safe.{Store}
use Rattle.sc_mem.specs.Words as words
use Rattle.sc_mem.specs.Words.{IsSize}
use Rattle.sc_emu.specs.Operations.{plain}
use Rattle.sc_meaning.specs.Accesses.{set_at}
use Rattle.sc_meaning.specs.Expressions.{Answer, base_of, further_of}
use Rattle.sc_meaning.specs.Values as values
use Rattle.sc_meaning.specs.Values.{Value, Number, FunctionAt, Pointer, Cell, Piece, scalar_size, layer_size, layer_is_pointer}
use Rattle.sc_meaning.specs.Violations.{store_rule, is_null, is_dead, is_outside, is_misaligned, is_constant, is_plain}
use Rattle.sc_meaning.specs.World.{World, object_at, written}
use Rattle.sc_mem_agree.specs.Agreement.{StandsFor}
use Rattle.sc_mem_store.specs.Holding.{meant, value_at}
use Rattle.sc_mem_store.specs.Stray.{is_stray}
use Rattle.sc_mem_store.proofs.Holding.{held-at}
use Rattle.sc_mem_store.proofs.Living.{length_of_word, word-tagged}
use Rattle.sc_compiled_frames.specs.Means.{IsWord, Means}
use Rattle.sc_compiled_frames.specs.Words.{AreStubs, AreSeated, IsCell, IsInside, HeldWords, IsOf}
use Rattle.sc_compiled_frames.specs.Accesses.{Stores}
use Rattle.sc_compiled_frames.proofs.Values.{value_is, inside_is, has_tag, some_number}
use Rattle.sc_compiled_frames.proofs.Reaching.{store_tests, reached}
use Rattle.sc_compiled_frames.proofs.Loading.{layer_sized, aligned, placed}
use Rattle.sc_compiled_frames.proofs.Writing.{words_put}

-- ---- the cells of a word
module _ (fs : List Key) (f : Key → ℕ) (t : List Obj) (stubs : AreStubs fs f) (seated : AreSeated t) where
  number_cells : (n k : ℕ) → IsSize n → map (meant fs t) (words.cells_of n (plain k)) ≡ values.cells_of n (Number k)
  number_cells n k (inl e) = subst (λ n. map (meant fs t) (words.cells_of n (plain k)) ≡ values.cells_of n (Number k)) (sym e) refl
  number_cells n k (inr (inl e)) = subst (λ n. map (meant fs t) (words.cells_of n (plain k)) ≡ values.cells_of n (Number k)) (sym e) refl
  number_cells n k (inr (inr e)) = subst (λ n. map (meant fs t) (words.cells_of n (plain k)) ≡ values.cells_of n (Number k)) (sym e) refl

  abbrev four : Value → List Cell
  four v = Piece v 0 ∷ Piece v 1 ∷ Piece v 2 ∷ Piece v 3 ∷ []

  no_tag : (n : ℕ) → n ≢ 0 → (n == 0) ≡ false
  no_tag n ne = grind (arith, nat_tests)

  piece_cells : (y : Word) (v : Value) → y.tag ≢ 0 → value_at fs t y.tag y.bits ≡ v → map (meant fs t) (words.cells_of 4 y) ≡ four v
  piece_cells y v ne is =
      ap (λ b. map (meant fs t) (cond (cond b false true) (words.pieces_of y) (map Octet (take 4 (words.bytes_of y.bits))))) (no_tag y.tag ne)
      ∙ ap four is

  -- the cells of a word are those of the value for which it stands, of a number in each size
  pub cells_are : (n : ℕ) (y : Word) (v : Value) → IsSize n → (n ≡ 4) ⊎ (is_plain v ≡ true) → y.bits < 2 ^ 32 → StandsFor f t y v → map (meant fs t) (words.cells_of n y) ≡ values.cells_of n v
  cells_are n y (Number k) size whole lt s =
      let is : y ≡ plain k = λ i. record { bits = s.0 i; tag = s.1 i } in
      ap (λ x. map (meant fs t) (words.cells_of n x)) is ∙ number_cells n k size
  cells_are n y (FunctionAt k) size (inl e) lt s =
      let ne : y.tag ≢ 0 = λ z. omega (arith, z, s.1) in
      subst (λ n. map (meant fs t) (words.cells_of n y) ≡ values.cells_of n (FunctionAt k)) (sym e) (piece_cells y (FunctionAt k) ne (value_is fs f t y (FunctionAt k) stubs seated lt s))
  cells_are n y (FunctionAt k) size (inr e) lt s = absurd (cc (e))
  cells_are n y (Pointer o i) size (inl e) lt s =
      let ne : y.tag ≢ 0 = λ z. some_number t o s.0 s.2 (sym s.1 ∙ z) in
      subst (λ n. map (meant fs t) (words.cells_of n y) ≡ values.cells_of n (Pointer o i)) (sym e) (piece_cells y (Pointer o i) ne (value_is fs f t y (Pointer o i) stubs seated lt s))
  cells_are n y (Pointer o i) size (inr e) lt s = absurd (cc (e))

  -- each is one that a machine can have
  low : (n : ℕ) → n % 256 < 256
  low n = omega arith

  byte_cells : (xs : List ℕ) → ((k x : ℕ) → slice_get xs k ≡ Some x → x < 256) → (k : ℕ) (c : Stored) → slice_get (map Octet xs) k ≡ Some c → IsCell t c
  byte_cells [] h k c e = absurd (cc (e))
  byte_cells (x ∷ xs) h zero c e = let is : Octet x ≡ c = cc (e) in subst (IsCell t) is (h 0 x refl)
  byte_cells (x ∷ xs) h (suc k) c e = byte_cells xs (λ j y g. h (suc j) y g) k c e

  of_bytes : (b k x : ℕ) → slice_get (words.bytes_of b) k ≡ Some x → x < 256
  of_bytes b zero x e = let is : b % 256 ≡ x = cc (e) in subst (λ y. y < 256) is (low b)
  of_bytes b (suc zero) x e = let is : b / 256 % 256 ≡ x = cc (e) in subst (λ y. y < 256) is (low (b / 256))
  of_bytes b (suc (suc zero)) x e = let is : b / 65536 % 256 ≡ x = cc (e) in subst (λ y. y < 256) is (low (b / 65536))
  of_bytes b (suc (suc (suc zero))) x e = let is : b / 16777216 % 256 ≡ x = cc (e) in subst (λ y. y < 256) is (low (b / 16777216))
  of_bytes b (suc (suc (suc (suc k)))) x e = absurd (cc (e))

  front : (n k x : ℕ) (xs : List ℕ) → slice_get (take n xs) k ≡ Some x → slice_get xs k ≡ Some x
  front zero k x xs e = absurd (cc (e))
  front (suc n) k x [] e = e
  front (suc n) zero x (y ∷ ys) e = e
  front (suc n) (suc k) x (y ∷ ys) e = front n k x ys e

  piece_cell : (y : Word) (k : ℕ) (c : Stored) → (y.bits < 2 ^ 32) × IsInside t y.bits y.tag → slice_get (words.pieces_of y) k ≡ Some c → IsCell t c
  piece_cell y zero c lt e = let is : Frag y.bits y.tag 0 ≡ c = cc (e) in subst (IsCell t) is lt
  piece_cell y (suc zero) c lt e = let is : Frag y.bits y.tag 1 ≡ c = cc (e) in subst (IsCell t) is lt
  piece_cell y (suc (suc zero)) c lt e = let is : Frag y.bits y.tag 2 ≡ c = cc (e) in subst (IsCell t) is lt
  piece_cell y (suc (suc (suc zero))) c lt e = let is : Frag y.bits y.tag 3 ≡ c = cc (e) in subst (IsCell t) is lt
  piece_cell y (suc (suc (suc (suc k)))) c lt e = absurd (cc (e))

  pub word_cells : (n : ℕ) (y : Word) (k : ℕ) (c : Stored) → (y.bits < 2 ^ 32) × IsInside t y.bits y.tag → slice_get (words.cells_of n y) k ≡ Some c → IsCell t c
  word_cells n y k c lt e = by ((n == 4) && cond (y.tag == 0) false true) e
    where
      by : (b : Bool) → slice_get (cond b (words.pieces_of y) (map Octet (take n (words.bytes_of y.bits)))) k ≡ Some c → IsCell t c
      by true there = piece_cell y k c lt there
      by false there = byte_cells (take n (words.bytes_of y.bits)) (λ j x g. of_bytes y.bits j x (front n j x (words.bytes_of y.bits) g)) k c there

  -- and leads somewhere
  none_stray : (ds : List Cell) → list_any is_stray ds ≡ false → (k : ℕ) (d : Cell) → slice_get ds k ≡ Some d → is_stray d ≡ false
  none_stray [] n k d e = absurd (cc (e))
  none_stray (x ∷ ds) n zero d e = let is : x ≡ d = cc (e) in subst (λ y. is_stray y ≡ false) is (first (is_stray x) (list_any is_stray ds) n)
    where
      first : (b r : Bool) → Rattle.std.specs.Prelude.◌||◌ b r ≡ false → b ≡ false
      first true r e = absurd (cc (e))
      first false r e = refl
  none_stray (x ∷ ds) n (suc k) d e = none_stray ds (rest (is_stray x) (list_any is_stray ds) n) k d e
    where
      rest : (b r : Bool) → Rattle.std.specs.Prelude.◌||◌ b r ≡ false → r ≡ false
      rest true r e = absurd (cc (e))
      rest false r e = e

  by_value : (n : ℕ) (y : Word) (v : Value) → (n ≡ 1) ⊎ ((n ≡ 2) ⊎ (n ≡ 4)) → StandsFor f t y v → list_any is_stray (values.cells_of n v) ≡ false
  by_value n y (Number k) (inl e) s = subst (λ n. list_any is_stray (values.cells_of n (Number k)) ≡ false) (sym e) refl
  by_value n y (Number k) (inr (inl e)) s = subst (λ n. list_any is_stray (values.cells_of n (Number k)) ≡ false) (sym e) refl
  by_value n y (Number k) (inr (inr e)) s = subst (λ n. list_any is_stray (values.cells_of n (Number k)) ≡ false) (sym e) refl
  by_value n y (FunctionAt k) (inl e) s = subst (λ n. list_any is_stray (values.cells_of n (FunctionAt k)) ≡ false) (sym e) refl
  by_value n y (FunctionAt k) (inr (inl e)) s = subst (λ n. list_any is_stray (values.cells_of n (FunctionAt k)) ≡ false) (sym e) refl
  by_value n y (FunctionAt k) (inr (inr e)) s = subst (λ n. list_any is_stray (values.cells_of n (FunctionAt k)) ≡ false) (sym e) refl
  by_value n y (Pointer zero i) size s = absurd (cc (s.2))
  by_value n y (Pointer (suc o) i) (inl e) s = subst (λ n. list_any is_stray (values.cells_of n (Pointer (suc o) i)) ≡ false) (sym e) refl
  by_value n y (Pointer (suc o) i) (inr (inl e)) s = subst (λ n. list_any is_stray (values.cells_of n (Pointer (suc o) i)) ≡ false) (sym e) refl
  by_value n y (Pointer (suc o) i) (inr (inr e)) s = subst (λ n. list_any is_stray (values.cells_of n (Pointer (suc o) i)) ≡ false) (sym e) refl

  pub value_cells : (n : ℕ) (y : Word) (v : Value) → IsSize n → StandsFor f t y v → (k : ℕ) (d : Cell) → slice_get (values.cells_of n v) k ≡ Some d → is_stray d ≡ false
  value_cells n y v size s = none_stray (values.cells_of n v) (by_value n y v size s)

-- ---- the store
pointer_sized : (l : CType-F CType Signature) → layer_is_pointer l ≡ true → layer_size l ≡ 4
pointer_sized (CType-F.Void c) e = absurd (cc (e))
pointer_sized (CType-F.Int i c) e = absurd (cc (e))
pointer_sized (CType-F.Pointer p c) e = refl
pointer_sized (CType-F.Array t n) e = absurd (cc (e))
pointer_sized (CType-F.Struct s c) e = absurd (cc (e))
pointer_sized (CType-F.Function s) e = absurd (cc (e))

module _ (fs : List Key) (f : Key → ℕ) (stubs : AreStubs fs f) (m : Flat) (w : World) (h : HeldWords fs m w.objects) where
  sized : (ty : CType) (v : Value) → IsOf ty v → (scalar_size ty ≡ 4) ⊎ (is_plain v ≡ true)
  sized ty v (inl e) = inl (pointer_sized (out-CType ty) e)
  sized ty v (inr e) = inr e

  pub store_word : (ty : CType) (a : Answer) (x y : Word) (v : Value) → 0 < scalar_size ty → IsWord f m.objects a x → Means f m.objects y v → IsOf ty v
      → store_rule w.objects (base_of a) (further_of a) (scalar_size ty) ≡ None
      → Stores fs m (put m x.bits (scalar_size ty) y) x.bits (scalar_size ty) (set_at (base_of a) (further_of a) (scalar_size ty) v w).objects
  store_word ty a x y v scalar word means of rule =
      let value = means.stands in
      let lt = means.wide in
      let u = base_of a in
      let further = further_of a in
      let n = scalar_size ty in
      let (null, dead, outside, mis, constant) = store_tests (is_null u) (is_dead w.objects u) (is_outside w.objects u further n) (is_misaligned u further n) (is_constant w.objects u) rule in
      let r = reached f fs w.objects m h.held.holds h.seated n x a word null dead outside in
      let size = layer_sized (out-CType ty) scalar in
      let at = r.offset + further in
      let even : at % n ≡ 0 = aligned at n (subst (λ u. is_misaligned u further n ≡ false) r.into mis) in
      let (o, here, held) = held-at w.objects m fs r.id r.object h.held.holds r.live.0 in
      let store : Store = record { flat = m; blocks = h.held.blocks } in
      let (i, whole, there) = placed m store r.object r.id at n refl h.held.safe r.live size held.base even r.inside in
      let part = words.cells_of n y in
      let ds = values.cells_of n v in
      let long : length part ≡ n = length_of_word n y size in
      let new : Flat = record { heap = m.heap; stack = m.stack; cells = with_range m.cells i part; objects = m.objects } in
      let done : HeldWords fs new (written w.objects r.id at ds (object_at w.objects r.id)) =
      words_put fs m w.objects h at r.object part ds (cells_are fs f m.objects stubs h.seated n y v size (sized ty v of) lt value) (omega (arith, long, r.inside)) i (subst (λ k. place m (r.object.base + at) k ≡ Some i) (sym long) there)
      (λ k c e. (word_cells fs f m.objects stubs h.seated n y k c (lt, inside_is f m.objects y v value means.within) e, word-tagged m.objects n y k c (has_tag f m.objects y v value) e)) (value_cells fs f m.objects stubs h.seated n y v size value) r.id r.live in
      let is_put : put m x.bits n y ≡ new = ap (λ b. written_at m (place m b n) part) r.there ∙ ap (λ q. written_at m q part) there in
      let is_world : (set_at u further n v w).objects ≡ written w.objects r.id at ds (object_at w.objects r.id) = ap (λ u. (set_at u further n v w).objects) r.into in
      record {
        at = i;
        there = ap (λ b. aligned_place m b n) r.there ∙ whole;
        table = ap (λ (z : Flat). z.objects) is_put;
        stack = ap (λ (z : Flat). z.stack) is_put;
        holds = subst (λ z. HeldWords fs z (set_at u further n v w).objects) (sym is_put) (subst (λ z. HeldWords fs new z) (sym is_world) done);
      }
