-- Scalars that are read whole: the bytes of a number or the pieces of a pointer are those that the meaning reads, and break no rule.
use Rattle.std.proofs.Common.{◌≡◌, ◌≢◌, ◌⊎◌, inl, inr, ℕ, zero, suc, ◌+◌, ◌-◌, ◌*◌, ◌%◌, ◌<◌, ◌≤◌, ◌==◌, ◌&&◌, min, nat_lt, Bool, true, false, not, cond, List, [], ◌∷◌, length, map, take, drop, Option, Some, None, option_map, refl, sym, ap, subst, ◌∙◌, arith}
use Rattle.std.specs.List.{slice_get, list_any, list_all}
use Rattle.std.specs.Option.{IsSome}
use Rattle.std.proofs.lemmas.Bool.Decides.{nat_tests}
use Rattle.std.proofs.lemmas.Option.{slice_get-map, slice_get_within}
use Rattle.std.proofs.lemmas.List.{length-map, length-take, length-drop}
use Rattle.sc_base.specs.declared.key.Key.{Key}
use Rattle.sc_base.specs.declared.memory.Cell.{Cell as Stored}
use Rattle.sc_base.specs.declared.memory.Cell.TheVariants as stored
use Rattle.sc_base.specs.declared.memory.Word.{Word}
use Rattle.sc_base.specs.declared.report.Rule.{Rule}
use Rattle.sc_rules.specs.Tests as tests
use Rattle.sc_rules.specs.Orders as orders
use Rattle.sc_objects.specs.declared.objects.Obj.{Obj}
use Rattle.sc_objects.specs.Numbered.{object_of, IsLive}
use Rattle.sc_cells.specs.Range.{range_of}
use Rattle.sc_mem.specs.Flat.{Flat, place, cell_at, cell_in, cells_at, cells_from}
use Rattle.sc_mem.specs.Safe.{Store, IsSafe}
use Rattle.sc_mem.specs.Words as words
use Rattle.sc_mem.specs.Words.{IsWritten, pieces_of}
use Rattle.sc_meaning.specs.Values.{Value, Number, FunctionAt, Pointer, Cell, Unwritten, Byte, Piece, same_key, same_value, or_number, number_of_cells, pointer_of, value_of_cells}
use Rattle.sc_meaning.specs.Violations.{cells_read, is_dead, is_fragment, is_misaligned, is_mixed, is_none, is_null, is_outside, is_unwritten, is_zero, load_rule, of_object, reads_unwritten}
use Rattle.sc_meaning.specs.World.{Object, object_at}
use Rattle.sc_meaning.specs.World.{cells_at as cells_there}
use Rattle.sc_mem_store.specs.Fetches.{IsFetched, IsWanted}
use Rattle.sc_mem_store.specs.Holding.{Holds, HasBytes, byte_at, function_of, function_or, meant, place_or, value_at}
use Rattle.sc_mem_store.proofs.Cells.{place-bound, place-part, some-is}
use Rattle.sc_mem_store.proofs.Holding.{held-at}
use Rattle.sc_mem_store.proofs.Keys.{key_self}
use Rattle.sc_mem_store.proofs.Lists.{get-range}
use Rattle.sc_mem_store.proofs.Living.{get-some}
use Rattle.sc_mem_store.proofs.Reading.{read_some}

-- ---- what was found of a word
found_so : (m : Flat) (id at further n : ℕ) (pointer : Bool) (p : Obj) (w : Word) (offset a : ℕ) → object_of m.objects id ≡ Some p → p.live ≡ true → offset ≡ at + further → offset + n ≤ p.size → 0 < n → offset % n ≡ 0 → a ≡ p.base + offset → IsSome (place m a n) × IsWritten (cells_at m a n) w → IsWanted pointer n w → IsFetched m id at further n pointer w
found_so m id at further n pointer p w offset a here live sum fits some even place_is written wanted =
    let there : a ≡ p.base + (at + further) = place_is ∙ ap (λ k. p.base + k) sum in
    let both : IsSome (place m (p.base + (at + further)) n) × IsWritten (cells_at m (p.base + (at + further)) n) w = subst (λ b. IsSome (place m b n) × IsWritten (cells_at m b n) w) there written in
    (p, (here, live), subst (λ k. k + n ≤ p.size) sum fits, some, subst (λ k. k % n ≡ 0) sum even, both.0, both.1, wanted)

pub fetched_pointer : (m : Flat) (id at further n : ℕ) (pointer : Bool) (p : Obj) (w : Word) (offset a : ℕ) → object_of m.objects id ≡ Some p → p.live ≡ true → offset ≡ at + further → offset + n ≤ p.size → 0 < n → offset % n ≡ 0 → a ≡ p.base + offset → IsSome (place m a n) × IsWritten (cells_at m a n) w → pointer ≡ true → w.tag ≢ 0 → IsFetched m id at further n pointer w
fetched_pointer m id at further n pointer p w offset a here live sum fits some even place_is written is tag = found_so m id at further n pointer p w offset a here live sum fits some even place_is written (inl (is, tag))

pub fetched_null : (m : Flat) (id at further n : ℕ) (pointer : Bool) (p : Obj) (w : Word) (offset a : ℕ) → object_of m.objects id ≡ Some p → p.live ≡ true → offset ≡ at + further → offset + n ≤ p.size → 0 < n → offset % n ≡ 0 → a ≡ p.base + offset → IsSome (place m a n) × IsWritten (cells_at m a n) w → pointer ≡ true → w.tag ≡ 0 → w.bits ≡ 0 → n ≡ 4 → IsFetched m id at further n pointer w
fetched_null m id at further n pointer p w offset a here live sum fits some even place_is written is tag bits four = found_so m id at further n pointer p w offset a here live sum fits some even place_is written (inr (inl (is, tag, bits, four)))

pub fetched_number : (m : Flat) (id at further n : ℕ) (pointer : Bool) (p : Obj) (w : Word) (offset a : ℕ) → object_of m.objects id ≡ Some p → p.live ≡ true → offset ≡ at + further → offset + n ≤ p.size → 0 < n → offset % n ≡ 0 → a ≡ p.base + offset → IsSome (place m a n) × IsWritten (cells_at m a n) w → pointer ≡ false → w.tag ≡ 0 → IsFetched m id at further n pointer w
fetched_number m id at further n pointer p w offset a here live sum fits some even place_is written is tag = found_so m id at further n pointer p w offset a here live sum fits some even place_is written (inr (inr (is, tag)))

-- ---- the bytes that memory has there are the object's
module _ (s : Store) (fs : List Key) (safe : IsSafe s) where
  abbrev m : Flat
  m = s.flat

  abbrev f : Stored → Cell
  f = meant fs m.objects

  same-byte : (a n i k : ℕ) (x : Stored) → place m a n ≡ Some i → slice_get (range_of m.cells i n) k ≡ Some x → k < n → cell_at m (a + k) ≡ Some x
  same-byte a n i k x e got few =
      ap (cell_in m.cells) (place-part m.heap m.stack a n i k safe.heap safe.stack e few) ∙ get-range m.cells i n k x got

  range-long : (a n i : ℕ) → place m a n ≡ Some i → length (range_of m.cells i n) ≡ n
  range-long a n i e =
      let bound = place-bound m.heap m.stack a n i safe.heap safe.stack e in
      let sized = safe.sized in
      let one = length-take n (drop i m.cells) in
      let two = length-drop i m.cells in
      omega (arith, bound, sized, one, two)

  -- the cells as bytes stand from there on
  bytes-there : (a n i : ℕ) → place m a n ≡ Some i → HasBytes m fs a (map f (range_of m.cells i n))
  bytes-there a n i e k c got =
      let long = range-long a n i e in
      let size : length (map f (range_of m.cells i n)) ≡ length (range_of m.cells i n) = length-map (range_of m.cells i n) f in
      let within = slice_get_within (map f (range_of m.cells i n)) k c got in
      let few : k < n = omega (arith, within, long, size) in
      let (x, is) = get-some (range_of m.cells i n) k (omega (arith, few, long)) in
      let one : Some (f x) ≡ Some c = sym (ap (option_map f) is) ∙ (sym (slice_get-map f (range_of m.cells i n) k) ∙ got) in
      ap (option_map f) (same-byte a n i k x e is few) ∙ one

  pub bytes-read : (os : List Object) (id at n : ℕ) (p : Obj) → Holds os m fs → IsLive m.objects id p → at + n ≤ p.size → IsSome (place m (p.base + at) n) → map f (cells_at m (p.base + at) n) ≡ cells_there os id at n
  bytes-read os id at n p h live fits some =
      let (i, e) = some-is (place m (p.base + at) n) some in
      let long = range-long (p.base + at) n i e in
      let size : length (map f (range_of m.cells i n)) ≡ n = length-map (range_of m.cells i n) f ∙ long in
      let least : n ≡ min n (p.size - at) = omega (arith, fits) in
      ap (λ q. map f (cells_from m.cells q n)) e
      ∙ read_some os m fs id at n (p.base + at) n p (map f (range_of m.cells i n)) h live.0 (live.1, least, λ l. refl) size (bytes-there (p.base + at) n i e)

-- ---- bytes of numbers
byte-list : (fs : List Key) (t : List Obj) (xs : List ℕ) → map (meant fs t) (map stored.Byte xs) ≡ map Byte xs
byte-list fs t [] = refl
byte-list fs t (x ∷ xs) = ap (λ (cs : List Cell). Byte x ∷ cs) (byte-list fs t xs)

none-unwritten : (xs : List ℕ) → list_any is_unwritten (map Byte xs) ≡ false
none-unwritten [] = refl
none-unwritten (x ∷ xs) = none-unwritten xs

none-fragment : (xs : List ℕ) → list_any is_fragment (map Byte xs) ≡ false
none-fragment [] = refl
none-fragment (x ∷ xs) = none-fragment xs

no-pointer : (xs : List ℕ) → pointer_of (map Byte xs) ≡ None
no-pointer [] = refl
no-pointer (a ∷ []) = refl
no-pointer (a ∷ b ∷ []) = refl
no-pointer (a ∷ b ∷ c ∷ []) = refl
no-pointer (a ∷ b ∷ c ∷ d ∷ []) = refl
no-pointer (a ∷ b ∷ c ∷ d ∷ e ∷ xs) = refl

same-number : (xs : List ℕ) → number_of_cells (map Byte xs) ≡ words.number_of (map stored.Byte xs)
same-number [] = refl
same-number (x ∷ xs) = ap (λ n. x + 256 * n) (same-number xs)

no-byte : (x n : ℕ) → x + 256 * n ≡ 0 → ((x == 0) ≡ true) × (n ≡ 0)
no-byte x n e = (let z : x ≡ 0 = omega (arith, e) in rw z refl, omega (arith, e))

all-zero : (xs : List ℕ) → number_of_cells (map Byte xs) ≡ 0 → list_all is_zero (map Byte xs) ≡ true
all-zero [] e = refl
all-zero (x ∷ xs) e =
    let both = no-byte x (number_of_cells (map Byte xs)) e in
    rw both.0 (all-zero xs both.1)

-- ---- the pieces of a pointer
same-number-self : (n : ℕ) → (n == n) ≡ true
same-number-self n = grind (arith, nat_tests)

value-self : (v : Value) → same_value v v ≡ true
value-self (Number n) = same-number-self n
value-self (FunctionAt k) = key_self k
value-self (Pointer o i) = rw (same-number-self o, same-number-self i) refl

abbrev four : Value → List Cell
four v = Piece v 0 ∷ Piece v 1 ∷ Piece v 2 ∷ Piece v 3 ∷ []

pointer-is : (v : Value) → pointer_of (four v) ≡ Some v
pointer-is v = rw (value-self v) refl

piece-list : (fs : List Key) (t : List Obj) (w : Word) → map (meant fs t) (pieces_of w) ≡ four (value_at fs t w.tag w.bits)
piece-list fs t w = refl

-- ---- no rule is broken
no-outside : (size place n : ℕ) → place + n ≤ size → nat_lt size (place + n) ≡ false
no-outside size place n l = grind (arith, nat_tests)

no-misaligned : (place n : ℕ) → place % n ≡ 0 → not (place % n == 0) ≡ false
no-misaligned place n e = rw e refl

no-rule : (os : List Object) (id at further n : ℕ) (pointer : Bool) (o : Object) → object_at os id ≡ Some o → o.live ≡ true → at + further + n ≤ o.size → (at + further) % n ≡ 0 → reads_unwritten (cells_there os id (at + further) n) ≡ false → is_mixed pointer (cells_there os id (at + further) n) ≡ false → load_rule os (Pointer id at) further n pointer ≡ None
no-rule os id at further n pointer o here live fits even written mixed =
    let dead : is_dead os (Pointer id at) ≡ false = ap (of_object false (λ (o : Object). tests.is_dead o.live)) here ∙ ap not live in
    let outside : is_outside os (Pointer id at) further n ≡ false = ap (of_object true (λ (o : Object). tests.ends_outside o.size (at + further) n)) here ∙ no-outside o.size (at + further) n fits in
    let misaligned : is_misaligned (Pointer id at) further n ≡ false = no-misaligned (at + further) n even in
    ap (λ b. orders.load false b (is_outside os (Pointer id at) further n) (is_misaligned (Pointer id at) further n) (reads_unwritten (cells_there os id (at + further) n)) (is_mixed pointer (cells_there os id (at + further) n))) dead
    ∙ (ap (λ b. orders.load false false b (is_misaligned (Pointer id at) further n) (reads_unwritten (cells_there os id (at + further) n)) (is_mixed pointer (cells_there os id (at + further) n))) outside
    ∙ (ap (λ b. orders.load false false false b (reads_unwritten (cells_there os id (at + further) n)) (is_mixed pointer (cells_there os id (at + further) n))) misaligned
    ∙ (ap (λ b. orders.load false false false false b (is_mixed pointer (cells_there os id (at + further) n))) written
    ∙ ap (λ b. orders.load false false false false false b) mixed)))

-- what the cells are, where they are a number's
number-cells : (fs : List Key) (t : List Obj) (pointer : Bool) (n : ℕ) (xs : List ℕ) (w : Word) (cs : List Cell) → cs ≡ map Byte xs → words.number_of (map stored.Byte xs) ≡ w.bits → w.tag ≡ 0 → IsWanted pointer n w → (reads_unwritten cs ≡ false) × (is_mixed pointer cs ≡ false) × (value_at fs t w.tag w.bits ≡ value_of_cells cs)
number-cells fs t pointer n xs w cs is bits tag wanted =
    let number : number_of_cells (map Byte xs) ≡ w.bits = same-number xs ∙ bits in (
      ap (list_any is_unwritten) is ∙ none-unwritten xs,
      elim wanted [
        | inl a ↦ absurd (a.1 tag)
        | inr rest ↦ elim rest [
          | inl b ↦ ap (λ p. is_mixed p cs) b.0 ∙ (ap (λ (ds : List Cell). not (list_all is_zero ds) && is_none (pointer_of ds)) is ∙ ap (λ b. not b && is_none (pointer_of (map Byte xs))) (all-zero xs (number ∙ b.2)))
          | inr c ↦ ap (λ p. is_mixed p cs) c.0 ∙ (ap (list_any is_fragment) is ∙ none-fragment xs)
        ]
      ],
      ap (λ k. value_at fs t k w.bits) tag ∙ (ap Number (sym number) ∙ (ap (λ q. or_number q (number_of_cells (map Byte xs))) (sym (no-pointer xs)) ∙ ap value_of_cells (sym is))),
    )

-- the same where they are a pointer's
pointer-cells : (fs : List Key) (t : List Obj) (pointer : Bool) (n : ℕ) (w : Word) (cs : List Cell) → cs ≡ four (value_at fs t w.tag w.bits) → w.tag ≢ 0 → IsWanted pointer n w → (reads_unwritten cs ≡ false) × (is_mixed pointer cs ≡ false) × (value_at fs t w.tag w.bits ≡ value_of_cells cs)
pointer-cells fs t pointer n w cs is tag wanted =
    let v = value_at fs t w.tag w.bits in (
      ap (list_any is_unwritten) is,
      elim wanted [
        | inl a ↦ ap (λ p. is_mixed p cs) a.0 ∙ (ap (λ (ds : List Cell). not (list_all is_zero ds) && is_none (pointer_of ds)) is ∙ ap (λ q. true && is_none q) (pointer-is v))
        | inr rest ↦ elim rest [ inl b ↦ absurd (tag b.1) | inr c ↦ absurd (tag c.1) ]
      ],
      ap (λ q. or_number q (number_of_cells (four v))) (sym (pointer-is v)) ∙ ap value_of_cells (sym is),
    )

pub fetched : (os : List Object) (s : Store) (fs given : List Key) (id at further n : ℕ) (pointer : Bool) (w : Word) (v : Value) → IsSafe s → Holds os s.flat fs → given ≡ fs → IsFetched s.flat id at further n pointer w → v ≡ value_at given s.flat.objects w.tag w.bits → (load_rule os (Pointer id at) further n pointer ≡ None) × (v ≡ value_of_cells (cells_read os (Pointer id at) further n))
fetched os s fs given id at further n pointer w v safe h same (p, live, fits, some, even, area, written, wanted) is =
    let m = s.flat in
    let a = at + further in
    let (o, here, held) = held-at os m fs id p h live.0 in
    let alive : o.live ≡ true = sym held.live ∙ live.1 in
    let size = held.size in
    let read : map (meant fs m.objects) (cells_at m (p.base + a) n) ≡ cells_there os id a n = bytes-read s fs safe os id a n p h live (omega (arith, fits)) area in
    let (one, two, three) = by-cells read written wanted in (
      no-rule os id at further n pointer o here alive (omega (arith, fits, size)) even one two,
      is ∙ (ap (λ (ks : List Key). value_at ks m.objects w.tag w.bits) same ∙ three),
    )
  where
    by-cells : {xs : List Stored} {cs : List Cell} → map (meant fs s.flat.objects) xs ≡ cs → IsWritten xs w → IsWanted pointer n w → (reads_unwritten cs ≡ false) × (is_mixed pointer cs ≡ false) × (value_at fs s.flat.objects w.tag w.bits ≡ value_of_cells cs)
    by-cells {xs} {cs} read (inl (tag, (bytes, are, number))) wanted =
        number-cells fs s.flat.objects pointer n bytes w cs (sym read ∙ (ap (map (meant fs s.flat.objects)) are ∙ byte-list fs s.flat.objects bytes)) (ap words.number_of (sym are) ∙ number) tag wanted
    by-cells {xs} {cs} read (inr (tag, are)) wanted =
        pointer-cells fs s.flat.objects pointer n w cs (sym read ∙ (ap (map (meant fs s.flat.objects)) are ∙ piece-list fs s.flat.objects w)) tag wanted
