-- Pages in which four cells in a row stand as a quad.
use Rattle.std.proofs.Common.{◌≡◌, ◌≢◌, inl, inr, ℕ, zero, suc, ◌+◌, ◌*◌, ◌/◌, ◌%◌, ◌<◌, ◌≤◌, ◌==◌, Bool, true, false, cond, List, [], ◌∷◌, length, replicate, set, get_or, refl, sym, ap, ◌∙◌, subst, Option, None, Some, arith}
use Rattle.std.proofs.lemmas.Bool.Decides.{nat_tests}
use Rattle.std.proofs.lemmas.List.{get_or-set_other, get_or-set_same, length-replicate, length-set}
use Rattle.std.specs.Prelude.{IfSome}
use Rattle.sc_base.specs.declared.memory.Cell.{Cell}
use Rattle.sc_base.specs.declared.memory.Cell.TheVariants.{Byte, Frag, Unwritten}
use Rattle.sc_base.specs.declared.memory.Word.{Word}
use Rattle.sc_cells.specs.declared.page.Quad.{Quad}
use Rattle.sc_cells.specs.declared.page.Quad.TheVariants.{Whole, Part, Mixed}
use Rattle.sc_cells.specs.Pages.{IsPage, IsPutIn, Sheet, StandsFor, blank, cell_if, cell_of, found, four_in, four_of, four_set, listed, sheet, whole_cells, wiped, with_cells}
use Rattle.sc_cells.proofs.Paged.{all-same, any-default, eq-false, eq-true, length-listed, listed-get, listed-same, listed-set, none-get, replicate-get}

abbrev page_cells : List Quad → List Cell → List Cell
page_cells quads loose = (sheet quads loose).cells

-- no cell is written
abbrev pub unwritten : Quad
unwritten = Part (record { bits = 0; tag = 0 }) (false ∷ false ∷ false ∷ false ∷ [])

none-written : (k : ℕ) (loose : Cell) → found unwritten k loose ≡ Unwritten
none-written zero loose = refl
none-written (suc zero) loose = refl
none-written (suc (suc zero)) loose = refl
none-written (suc (suc (suc zero))) loose = refl
none-written (suc (suc (suc (suc k)))) loose = refl

blank-get : (n i k : ℕ) → found (get_or (replicate n unwritten) i Mixed) k Unwritten ≡ Unwritten
blank-get zero i k = refl
blank-get (suc n) zero k = none-written k Unwritten
blank-get (suc n) (suc i) k = blank-get n i k

pub blank_page : (quads : List Quad) (loose : List Cell) → quads ≡ replicate 2048 unwritten → loose ≡ [] → sheet quads loose ≡ blank
blank_page quads loose are none = (λ t. sheet (are t) (none t)) ∙ (λ t. record { cells = cells t; room = 0 })
  where
    cells : listed (4 * length (replicate 2048 unwritten)) (cell_of (replicate 2048 unwritten) []) ≡ replicate 8192 Unwritten
    cells = ap (λ n. listed (4 * n) (cell_of (replicate 2048 unwritten) [])) (length-replicate {A = Quad} 2048 unwritten) ∙ all-same 8192 (cell_of (replicate 2048 unwritten) []) (λ i. blank-get 2048 (i / 4) (i % 4))

pub blank_fits : (quads : List Quad) (loose : List Cell) → quads ≡ replicate 2048 unwritten → loose ≡ [] → IsPage quads loose
blank_fits quads loose are none = let n : length quads ≡ 2048 = ap length are ∙ length-replicate {A = Quad} 2048 unwritten in record { few = omega arith; room = inl (ap length none) }

page_length : (quads : List Quad) (loose : List Cell) → length (page_cells quads loose) ≡ 4 * length quads
page_length quads loose = length-listed (4 * length quads) (cell_of quads loose)

page_cell : (quads : List Quad) (loose : List Cell) (i : ℕ) → i < 4 * length quads → get_or (page_cells quads loose) i Unwritten ≡ cell_of quads loose i
page_cell quads loose i l = listed-get (4 * length quads) (cell_of quads loose) i Unwritten l

pub past : (xs : List Cell) (i : ℕ) → length xs ≤ i → get_or xs i Unwritten ≡ Unwritten
past [] i h = refl
past (x ∷ xs) zero h = absurd (omega arith)
past (x ∷ xs) (suc i) h = past xs i (omega arith)

-- four cells that are put
length-four : (xs : List Cell) (j : ℕ) (a b c d : Cell) → length (four_set xs j a b c d) ≡ length xs
length-four xs j a b c d = length-set (set (set (set xs j a) (j + 1) b) (j + 2) c) (j + 3) d ∙ (length-set (set (set xs j a) (j + 1) b) (j + 2) c ∙ (length-set (set xs j a) (j + 1) b ∙ length-set xs j a))

four-same : (xs : List Cell) (j : ℕ) (a b c d : Cell) (k : ℕ) → k < 4 → j + 4 ≤ length xs → get_or (four_set xs j a b c d) (j + k) Unwritten ≡ get_or (a ∷ b ∷ c ∷ d ∷ []) k Unwritten
four-same xs j a b c d k h l = by k h
  where
    one : List Cell
    one = set xs j a

    two : List Cell
    two = set (set xs j a) (j + 1) b

    three : List Cell
    three = set (set (set xs j a) (j + 1) b) (j + 2) c

    len-one : length one ≡ length xs
    len-one = length-set xs j a

    len-two : length two ≡ length xs
    len-two = length-set (set xs j a) (j + 1) b ∙ length-set xs j a

    len-three : length three ≡ length xs
    len-three = length-set (set (set xs j a) (j + 1) b) (j + 2) c ∙ (length-set (set xs j a) (j + 1) b ∙ length-set xs j a)

    by : (k : ℕ) → k < 4 → get_or (set three (j + 3) d) (j + k) Unwritten ≡ get_or (a ∷ b ∷ c ∷ d ∷ []) k Unwritten
    by zero h =
        get_or-set_other three (j + 3) (j + 0) d Unwritten (λ e. absurd (omega arith))
        ∙ (get_or-set_other two (j + 2) (j + 0) c Unwritten (λ e. absurd (omega arith))
        ∙ (get_or-set_other one (j + 1) (j + 0) b Unwritten (λ e. absurd (omega arith))
        ∙ (ap (λ i. get_or one i Unwritten) (omega arith) ∙ get_or-set_same xs j a Unwritten (omega arith))))
    by (suc zero) h =
        get_or-set_other three (j + 3) (j + 1) d Unwritten (λ e. absurd (omega arith))
        ∙ (get_or-set_other two (j + 2) (j + 1) c Unwritten (λ e. absurd (omega arith)) ∙ get_or-set_same one (j + 1) b Unwritten (rw len-one (omega arith)))
    by (suc (suc zero)) h =
        get_or-set_other three (j + 3) (j + 2) d Unwritten (λ e. absurd (omega arith)) ∙ get_or-set_same two (j + 2) c Unwritten (rw len-two (omega arith))
    by (suc (suc (suc zero))) h = get_or-set_same three (j + 3) d Unwritten (rw len-three (omega arith))
    by (suc (suc (suc (suc k)))) h = absurd (omega arith)

four-other : (xs : List Cell) (j : ℕ) (a b c d : Cell) (i : ℕ) → i ≢ j → i ≢ j + 1 → i ≢ j + 2 → i ≢ j + 3 → get_or (four_set xs j a b c d) i Unwritten ≡ get_or xs i Unwritten
four-other xs j a b c d i n0 n1 n2 n3 =
    get_or-set_other (set (set (set xs j a) (j + 1) b) (j + 2) c) (j + 3) i d Unwritten n3
    ∙ (get_or-set_other (set (set xs j a) (j + 1) b) (j + 2) i c Unwritten n2
    ∙ (get_or-set_other (set xs j a) (j + 1) i b Unwritten n1 ∙ get_or-set_other xs j i a Unwritten n0))

four-read : (xs : List Cell) (j k : ℕ) → k < 4 → get_or (four_of xs j) k Unwritten ≡ get_or xs (j + k) Unwritten
four-read xs j zero h = ap (λ i. get_or xs i Unwritten) (omega arith)
four-read xs j (suc zero) h = refl
four-read xs j (suc (suc zero)) h = refl
four-read xs j (suc (suc (suc zero))) h = refl
four-read xs j (suc (suc (suc (suc k)))) h = absurd (omega arith)

-- the four cells of a word
abbrev number : Word → List Cell
number w = Byte (w.bits % 256) ∷ Byte (w.bits / 256 % 256) ∷ Byte (w.bits / 65536 % 256) ∷ Byte (w.bits / 16777216 % 256) ∷ []

abbrev pointer : Word → List Cell
pointer w = Frag w.bits w.tag 0 ∷ Frag w.bits w.tag 1 ∷ Frag w.bits w.tag 2 ∷ Frag w.bits w.tag 3 ∷ []

four-whole : (w : Word) → whole_cells w ≡ get_or (whole_cells w) 0 Unwritten ∷ get_or (whole_cells w) 1 Unwritten ∷ get_or (whole_cells w) 2 Unwritten ∷ get_or (whole_cells w) 3 Unwritten ∷ []
four-whole w = by (w.tag == 0)
  where
    by : (b : Bool) → cond b (number w) (pointer w) ≡ get_or (cond b (number w) (pointer w)) 0 Unwritten ∷ get_or (cond b (number w) (pointer w)) 1 Unwritten ∷ get_or (cond b (number w) (pointer w)) 2 Unwritten ∷ get_or (cond b (number w) (pointer w)) 3 Unwritten ∷ []
    by true = refl
    by false = refl

-- four cells of a function's list
abbrev other : ℕ → Cell → (ℕ → Cell) → ℕ → Cell
other j c f i = cond (i == j) c (f i)

is-equal : (j : ℕ) → (j == j) ≡ true
is-equal j = grind (arith, nat_tests)

is-other : (i j : ℕ) → i ≢ j → (i == j) ≡ false
is-other i j ne = grind (arith, nat_tests)

other-here : (j : ℕ) (c : Cell) (f : ℕ → Cell) → other j c f j ≡ c
other-here j c f = ap (λ b. cond b c (f j)) (is-equal j)

other-else : (j : ℕ) (c : Cell) (f : ℕ → Cell) (i : ℕ) → i ≢ j → other j c f i ≡ f i
other-else j c f i ne = ap (λ b. cond b c (f i)) (is-other i j ne)

listed-other : (n : ℕ) (f : ℕ → Cell) (j : ℕ) (c : Cell) → j < n → listed n (other j c f) ≡ set (listed n f) j c
listed-other n f j c l = listed-set n f (other j c f) j c l (other-here j c f) (λ i ne. other-else j c f i ne)

four-listed : (n : ℕ) (f g : ℕ → Cell) (j : ℕ) (a b c d : Cell) → j + 4 ≤ n → g j ≡ a → g (j + 1) ≡ b → g (j + 2) ≡ c → g (j + 3) ≡ d → ((i : ℕ) → i ≢ j → i ≢ j + 1 → i ≢ j + 2 → i ≢ j + 3 → g i ≡ f i) → listed n g ≡ four_set (listed n f) j a b c d
four-listed n f g j a b c d l ga gb gc gd rest =
    listed-same n fourth g same
    ∙ (listed-other n third (j + 3) d (omega arith)
    ∙ (ap (λ (xs : List Cell). set xs (j + 3) d) (listed-other n second (j + 2) c (omega arith))
    ∙ (ap (λ (xs : List Cell). set (set xs (j + 2) c) (j + 3) d) (listed-other n first (j + 1) b (omega arith))
    ∙ ap (λ (xs : List Cell). set (set (set xs (j + 1) b) (j + 2) c) (j + 3) d) (listed-other n f j a (omega arith)))))
  where
    first : ℕ → Cell
    first = other j a f

    second : ℕ → Cell
    second = other (j + 1) b (other j a f)

    third : ℕ → Cell
    third = other (j + 2) c (other (j + 1) b (other j a f))

    fourth : ℕ → Cell
    fourth = other (j + 3) d (other (j + 2) c (other (j + 1) b (other j a f)))

    same : (i : ℕ) → g i ≡ fourth i
    same i = by (i == j + 3) refl (i == j + 2) refl (i == j + 1) refl (i == j) refl
      where
        by : (p3 : Bool) → (i == j + 3) ≡ p3 → (p2 : Bool) → (i == j + 2) ≡ p2 → (p1 : Bool) → (i == j + 1) ≡ p1 → (p0 : Bool) → (i == j) ≡ p0 → g i ≡ cond p3 d (cond p2 c (cond p1 b (cond p0 a (f i))))
        by true e3 p2 e2 p1 e1 p0 e0 = ap g (eq-true i (j + 3) e3) ∙ gd
        by false e3 true e2 p1 e1 p0 e0 = ap g (eq-true i (j + 2) e2) ∙ gc
        by false e3 false e2 true e1 p0 e0 = ap g (eq-true i (j + 1) e1) ∙ gb
        by false e3 false e2 false e1 true e0 = ap g (eq-true i j e0) ∙ ga
        by false e3 false e2 false e1 false e0 = rest i (eq-false i j e0) (eq-false i (j + 1) e1) (eq-false i (j + 2) e2) (eq-false i (j + 3) e3)

-- four cells are put, as a quad or as they are
four-list : (row : List Cell) → length row ≡ 4 → row ≡ get_or row 0 Unwritten ∷ get_or row 1 Unwritten ∷ get_or row 2 Unwritten ∷ get_or row 3 Unwritten ∷ []
four-list [] h = absurd (omega arith)
four-list (a ∷ []) h = absurd (omega arith)
four-list (a ∷ b ∷ []) h = absurd (omega arith)
four-list (a ∷ b ∷ c ∷ []) h = absurd (omega arith)
four-list (a ∷ b ∷ c ∷ d ∷ []) h = refl
four-list (a ∷ b ∷ c ∷ d ∷ e ∷ rest) h = absurd (omega arith)

quad-put : (quads : List Quad) (loose after : List Cell) (j : ℕ) (quad : Quad) (row : List Cell) → length row ≡ 4 → j % 4 ≡ 0 → j < 4 * length quads → ((k : ℕ) → k < 4 → found quad k (get_or after (j + k) Unwritten) ≡ get_or row k Unwritten) → ((i : ℕ) → i / 4 ≢ j / 4 → get_or after i Unwritten ≡ get_or loose i Unwritten) → page_cells (set quads (j / 4) quad) after ≡ four_in (page_cells quads loose) j row
quad-put quads loose after j quad row four aligned l stands kept =
    ap (λ n. listed (4 * n) (cell_of later after)) (length-set quads (j / 4) quad)
    ∙ (four-listed (4 * length quads) (cell_of quads loose) (cell_of later after) j (get_or row 0 Unwritten) (get_or row 1 Unwritten) (get_or row 2 Unwritten) (get_or row 3 Unwritten) (omega arith) (ap (cell_of later after) (omega arith) ∙ put 0 (omega arith)) (put 1 (omega arith)) (put 2 (omega arith)) (put 3 (omega arith)) rest
    ∙ sym (ap (four_in (page_cells quads loose) j) (four-list row four)))
  where
    later : List Quad
    later = set quads (j / 4) quad

    put : (k : ℕ) → k < 4 → cell_of later after (j + k) ≡ get_or row k Unwritten
    put k h =
        let p : (j + k) / 4 ≡ j / 4 = omega arith in
        let r : (j + k) % 4 ≡ k = omega arith in
        (λ t. found (get_or later (p t) Mixed) (r t) (get_or after (j + k) Unwritten))
        ∙ (ap (λ (q : Quad). found q k (get_or after (j + k) Unwritten)) (get_or-set_same quads (j / 4) quad Mixed (omega arith)) ∙ stands k h)

    rest : (i : ℕ) → i ≢ j → i ≢ j + 1 → i ≢ j + 2 → i ≢ j + 3 → cell_of later after i ≡ cell_of quads loose i
    rest i n0 n1 n2 n3 =
        let far : i / 4 ≢ j / 4 = grind arith in
        let same = get_or-set_other quads (j / 4) (i / 4) quad Mixed far in
        let cell = kept i far in
        λ t. found (same t) (i % 4) (cell t)

-- what each call comes to, by the page as it is seen
pub seen-length : (quads : List Quad) (loose : List Cell) (self : Sheet) → sheet quads loose ≡ self → length self.cells ≡ 4 * length quads
seen-length quads loose self view = ap (λ (s : Sheet). length s.cells) (sym view) ∙ page_length quads loose

pub seen-room : (quads : List Quad) (loose : List Cell) (self : Sheet) → sheet quads loose ≡ self → length loose ≡ self.room
seen-room quads loose self view = ap (λ (s : Sheet). s.room) view

pub cell_found : (quads : List Quad) (loose : List Cell) (self : Sheet) (j : ℕ) (quad : Quad) (r : Cell) → sheet quads loose ≡ self → j / 4 < length quads → quad ≡ get_or quads (j / 4) Mixed → r ≡ found quad (j % 4) (get_or loose j Unwritten) → r ≡ get_or self.cells j Unwritten
cell_found quads loose self j quad r view l is so =
    so ∙ (ap (λ (q : Quad). found q (j % 4) (get_or loose j Unwritten)) is ∙ (sym (page_cell quads loose j (omega arith)) ∙ ap (λ (s : Sheet). get_or s.cells j Unwritten) view))

pub cell_past : (quads : List Quad) (loose : List Cell) (self : Sheet) (j : ℕ) → sheet quads loose ≡ self → length quads ≤ j / 4 → Unwritten ≡ get_or self.cells j Unwritten
cell_past quads loose self j view l =
    let n = seen-length quads loose self view in
    sym (past self.cells j (omega arith))

pub word_is : (quads : List Quad) (loose : List Cell) (self : Sheet) (j : ℕ) (quad : Quad) (r : Option Word) → sheet quads loose ≡ self → j % 4 ≡ 0 → j / 4 < length quads → quad ≡ get_or quads (j / 4) Mixed → IfSome r (λ w. quad ≡ Whole w) → IfSome r (λ w. four_of self.cells j ≡ whole_cells w)
word_is quads loose self j quad None view aligned l is so = tt
word_is quads loose self j quad (Some w) view aligned l is so =
    ap (λ (s : Sheet). four_of s.cells j) (sym view)
    ∙ ((λ t. (ap (λ i. get_or (page_cells quads loose) i Unwritten) first ∙ cell 0 (omega arith)) t ∷ cell 1 (omega arith) t ∷ cell 2 (omega arith) t ∷ cell 3 (omega arith) t ∷ [])
    ∙ sym (four-whole w))
  where
    first : j ≡ j + 0
    first = omega arith

    cell : (k : ℕ) → k < 4 → get_or (page_cells quads loose) (j + k) Unwritten ≡ get_or (whole_cells w) k Unwritten
    cell k h =
        let p : (j + k) / 4 ≡ j / 4 = omega arith in
        let r : (j + k) % 4 ≡ k = omega arith in
        page_cell quads loose (j + k) (omega arith)
        ∙ ((λ t. found (get_or quads (p t) Mixed) (r t) (get_or loose (j + k) Unwritten)) ∙ ap (λ (q : Quad). found q k (get_or loose (j + k) Unwritten)) (sym is ∙ so))

pub word_put : (quads : List Quad) (loose : List Cell) (self : Sheet) (j : ℕ) (w : Word) → sheet quads loose ≡ self → j % 4 ≡ 0 → j < length self.cells → sheet (set quads (j / 4) (Whole w)) loose ≡ with_cells self (four_in self.cells j (whole_cells w))
word_put quads loose self j w view aligned l =
    let n = seen-length quads loose self view in
    (λ t. record { cells = quad-put quads loose loose j (Whole w) (whole_cells w) (ap length (four-whole w)) aligned (omega arith) (λ k h. refl) (λ i far. refl) t; room = length loose })
    ∙ ap (λ (s : Sheet). with_cells s (four_in s.cells j (whole_cells w))) view

pub quad_put : (quads : List Quad) (loose : List Cell) (self : Sheet) (q : ℕ) (quad : Quad) (four : List Cell) → sheet quads loose ≡ self → 4 * q + 4 ≤ length self.cells → length four ≡ 4 → StandsFor four quad → sheet (set quads q quad) loose ≡ with_cells self (four_in self.cells (4 * q) four)
quad_put quads loose self q quad four view l count stands =
    let n = seen-length quads loose self view in
    let at : 4 * q / 4 ≡ q = omega arith in
    ap (λ p. sheet (set quads p quad) loose) (sym at)
    ∙ ((λ t. record { cells = quad-put quads loose loose (4 * q) quad four count (omega arith) (omega arith) (λ k h. stands k (get_or loose (4 * q + k) Unwritten) h) (λ i far. refl) t; room = length loose })
    ∙ ap (λ (s : Sheet). with_cells s (four_in s.cells (4 * q) four)) view)

pub loose_put : (quads : List Quad) (loose : List Cell) (self : Sheet) (q : ℕ) (a b c d : Cell) → sheet quads loose ≡ self → 4 * q + 4 ≤ length self.cells → self.room ≡ length self.cells → sheet (set quads q Mixed) (four_set loose (4 * q) a b c d) ≡ with_cells self (four_in self.cells (4 * q) (a ∷ b ∷ c ∷ d ∷ []))
loose_put quads loose self q a b c d view l room =
    let n = seen-length quads loose self view in
    let m = seen-room quads loose self view in
    let at : 4 * q / 4 ≡ q = omega arith in
    let after : List Cell = four_set loose (4 * q) a b c d in
    ap (λ p. sheet (set quads p Mixed) after) (sym at)
    ∙ ((λ t. record {
      cells = quad-put quads loose after (4 * q) Mixed (a ∷ b ∷ c ∷ d ∷ []) refl (omega arith) (omega arith) (λ k h. four-same loose (4 * q) a b c d k h (omega arith)) (λ i far. four-other loose (4 * q) a b c d i (λ e. far (omega arith)) (λ e. far (omega arith)) (λ e. far (omega arith)) (λ e. far (omega arith))) t;
      room = length-four loose (4 * q) a b c d t;
    })
    ∙ ap (λ (s : Sheet). with_cells s (four_in s.cells (4 * q) (a ∷ b ∷ c ∷ d ∷ []))) view)

pub loose_four : (quads : List Quad) (loose : List Cell) (self : Sheet) (q : ℕ) (four : List Cell) → sheet quads loose ≡ self → 4 * q + 4 ≤ length self.cells → length four ≡ 4 → self.room ≡ length self.cells → sheet (set quads q Mixed) (four_set loose (4 * q) (get_or four 0 Unwritten) (get_or four 1 Unwritten) (get_or four 2 Unwritten) (get_or four 3 Unwritten)) ≡ with_cells self (four_in self.cells (4 * q) four)
loose_four quads loose self q four view l count room =
    loose_put quads loose self q (get_or four 0 Unwritten) (get_or four 1 Unwritten) (get_or four 2 Unwritten) (get_or four 3 Unwritten) view l room
    ∙ ap (λ (row : List Cell). with_cells self (four_in self.cells (4 * q) row)) (sym (four-list four count))

four-none : (k : ℕ) → get_or (Unwritten ∷ Unwritten ∷ Unwritten ∷ Unwritten ∷ []) k Unwritten ≡ Unwritten
four-none zero = refl
four-none (suc zero) = refl
four-none (suc (suc zero)) = refl
four-none (suc (suc (suc zero))) = refl
four-none (suc (suc (suc (suc k)))) = refl

pub four_wiped : (quads : List Quad) (loose : List Cell) (self : Sheet) (j : ℕ) → sheet quads loose ≡ self → j % 4 ≡ 0 → j < length self.cells → sheet (set quads (j / 4) unwritten) loose ≡ with_cells self (four_set self.cells j Unwritten Unwritten Unwritten Unwritten)
four_wiped quads loose self j view aligned l =
    let n = seen-length quads loose self view in
    let at : 4 * (j / 4) ≡ j = omega arith in
    quad_put quads loose self (j / 4) unwritten (Unwritten ∷ Unwritten ∷ Unwritten ∷ Unwritten ∷ []) view (omega arith) refl (λ k x h. none-written k x ∙ sym (four-none k))
    ∙ ap (λ i. with_cells self (four_set self.cells i Unwritten Unwritten Unwritten Unwritten)) at

-- room is taken
pub loosened : (quads : List Quad) (loose : List Cell) (self : Sheet) (n : ℕ) → sheet quads loose ≡ self → length loose ≡ 0 → n ≡ 4 * length quads → ((sheet quads (replicate n Unwritten)).cells ≡ self.cells) × ((sheet quads (replicate n Unwritten)).room ≡ length self.cells)
loosened quads loose self n view none all = (
  listed-same (4 * length quads) (cell_of quads loose) (cell_of quads (replicate n Unwritten)) (λ i. ap (found (get_or quads (i / 4) Mixed) (i % 4)) (replicate-get n i Unwritten ∙ sym (none-get loose i Unwritten none))) ∙ ap (λ (s : Sheet). s.cells) view,
  length-replicate n Unwritten ∙ (all ∙ sym (seen-length quads loose self view)),
)

pub loosened_so : (quads : List Quad) (loose after : List Cell) (self : Sheet) (n : ℕ) → sheet quads loose ≡ self → length loose ≡ 0 → after ≡ replicate n Unwritten → n ≡ 4 * length quads → ((sheet quads after).cells ≡ self.cells) × ((sheet quads after).room ≡ length self.cells)
loosened_so quads loose after self n view none are all = subst (λ (xs : List Cell). ((sheet quads xs).cells ≡ self.cells) × ((sheet quads xs).room ≡ length self.cells)) (sym are) (loosened quads loose self n view none all)

pub roomy_already : (quads : List Quad) (loose : List Cell) (self : Sheet) → sheet quads loose ≡ self → IsPage quads loose → length loose ≢ 0 → self.room ≡ length self.cells
roomy_already quads loose self view page some =
    let n = seen-length quads loose self view in
    let m = seen-room quads loose self view in
    elim page.room [ inl none ↦ absurd (some none) | inr all ↦ sym m ∙ (all ∙ sym n) ]

-- four cells that stand as a quad has them are those of the page
pub four_found : (quads : List Quad) (loose : List Cell) (self : Sheet) (q : ℕ) (quad : Quad) (four : List Cell) → sheet quads loose ≡ self → q < length quads → quad ≡ get_or quads q quad → four ≡ found quad (4 * q % 4) (get_or loose (4 * q) Unwritten) ∷ found quad ((4 * q + 1) % 4) (get_or loose (4 * q + 1) Unwritten) ∷ found quad ((4 * q + 2) % 4) (get_or loose (4 * q + 2) Unwritten) ∷ found quad ((4 * q + 3) % 4) (get_or loose (4 * q + 3) Unwritten) ∷ [] → four ≡ four_of self.cells (4 * q)
four_found quads loose self q quad four view l is are = are ∙ (λ t. (cell (4 * q) (omega arith) t ∷ cell (4 * q + 1) (omega arith) t ∷ cell (4 * q + 2) (omega arith) t ∷ cell (4 * q + 3) (omega arith) t ∷ []))
  where
    there : quad ≡ get_or quads q Mixed
    there = any-default quads q quad Mixed is l

    cell : (i : ℕ) → i / 4 ≡ q → found quad (i % 4) (get_or loose i Unwritten) ≡ get_or self.cells i Unwritten
    cell i e = cell_found quads loose self i quad (found quad (i % 4) (get_or loose i Unwritten)) view (rw e l) (there ∙ ap (λ p. get_or quads p Mixed) (sym e)) refl

pub four-count : (page xs : List Cell) (j : ℕ) → xs ≡ four_of page j → length xs ≡ 4
four-count page xs j are = ap length are

-- one cell of four
set-got : (xs : List Cell) (i : ℕ) → set xs i (get_or xs i Unwritten) ≡ xs
set-got [] i = refl
set-got (x ∷ xs) zero = refl
set-got (x ∷ xs) (suc i) = ap (λ ys. x ∷ ys) (set-got xs i)

still : (xs page : List Cell) (i : ℕ) → get_or xs i Unwritten ≡ get_or page i Unwritten → set xs i (get_or page i Unwritten) ≡ xs
still xs page i e = ap (set xs i) (sym e) ∙ set-got xs i

four-one : (page : List Cell) (j k : ℕ) (x : Cell) → k < 4 → four_in page j (set (four_of page j) k x) ≡ set page (j + k) x
four-one page j zero x h =
    let one : List Cell = set page j x in
    let at : j ≡ j + 0 = omega arith in
    ap (λ (ys : List Cell). set (set ys (j + 2) (get_or page (j + 2) Unwritten)) (j + 3) (get_or page (j + 3) Unwritten)) (still one page (j + 1) (get_or-set_other page j (j + 1) x Unwritten (λ e. absurd (omega arith))))
    ∙ (ap (λ (ys : List Cell). set ys (j + 3) (get_or page (j + 3) Unwritten)) (still one page (j + 2) (get_or-set_other page j (j + 2) x Unwritten (λ e. absurd (omega arith))))
    ∙ (still one page (j + 3) (get_or-set_other page j (j + 3) x Unwritten (λ e. absurd (omega arith))) ∙ ap (λ i. set page i x) at))
four-one page j (suc zero) x h =
    let one : List Cell = set page (j + 1) x in
    ap (λ (ys : List Cell). set (set (set ys (j + 1) x) (j + 2) (get_or page (j + 2) Unwritten)) (j + 3) (get_or page (j + 3) Unwritten)) (set-got page j)
    ∙ (ap (λ (ys : List Cell). set ys (j + 3) (get_or page (j + 3) Unwritten)) (still one page (j + 2) (get_or-set_other page (j + 1) (j + 2) x Unwritten (λ e. absurd (omega arith))))
    ∙ still one page (j + 3) (get_or-set_other page (j + 1) (j + 3) x Unwritten (λ e. absurd (omega arith))))
four-one page j (suc (suc zero)) x h =
    let one : List Cell = set page (j + 2) x in
    ap (λ (ys : List Cell). set (set (set ys (j + 1) (get_or page (j + 1) Unwritten)) (j + 2) x) (j + 3) (get_or page (j + 3) Unwritten)) (set-got page j)
    ∙ (ap (λ (ys : List Cell). set (set ys (j + 2) x) (j + 3) (get_or page (j + 3) Unwritten)) (set-got page (j + 1))
    ∙ still one page (j + 3) (get_or-set_other page (j + 2) (j + 3) x Unwritten (λ e. absurd (omega arith))))
four-one page j (suc (suc (suc zero))) x h =
    ap (λ (ys : List Cell). set (set (set ys (j + 1) (get_or page (j + 1) Unwritten)) (j + 2) (get_or page (j + 2) Unwritten)) (j + 3) x) (set-got page j)
    ∙ (ap (λ (ys : List Cell). set (set ys (j + 2) (get_or page (j + 2) Unwritten)) (j + 3) x) (set-got page (j + 1))
    ∙ ap (λ (ys : List Cell). set ys (j + 3) x) (set-got page (j + 2)))
four-one page j (suc (suc (suc (suc k)))) x h = absurd (omega arith)

four-two : (page : List Cell) (j k : ℕ) (x y : Cell) → k < 3 → four_in page j (set (set (four_of page j) k x) (k + 1) y) ≡ set (set page (j + k) x) (j + k + 1) y
four-two page j zero x y h =
    let both : List Cell = set (set page j x) (j + 1) y in
    let at : j ≡ j + 0 = omega arith in
    let other : (i : ℕ) → j + 1 < i → get_or both i Unwritten ≡ get_or page i Unwritten = λ i less. get_or-set_other (set page j x) (j + 1) i y Unwritten (λ e. absurd (omega arith)) ∙ get_or-set_other page j i x Unwritten (λ e. absurd (omega arith)) in
    ap (λ (ys : List Cell). set ys (j + 3) (get_or page (j + 3) Unwritten)) (still both page (j + 2) (other (j + 2) (omega arith)))
    ∙ (still both page (j + 3) (other (j + 3) (omega arith)) ∙ ap (λ i. set (set page i x) (i + 1) y) at)
four-two page j (suc zero) x y h =
    let both : List Cell = set (set page (j + 1) x) (j + 2) y in
    let at : j + 2 ≡ j + 1 + 1 = omega arith in
    ap (λ (ys : List Cell). set (set (set ys (j + 1) x) (j + 2) y) (j + 3) (get_or page (j + 3) Unwritten)) (set-got page j)
    ∙ (still both page (j + 3) (get_or-set_other (set page (j + 1) x) (j + 2) (j + 3) y Unwritten (λ e. absurd (omega arith)) ∙ get_or-set_other page (j + 1) (j + 3) x Unwritten (λ e. absurd (omega arith)))
    ∙ ap (λ i. set (set page (j + 1) x) i y) at)
four-two page j (suc (suc zero)) x y h =
    let at : j + 3 ≡ j + 2 + 1 = omega arith in
    ap (λ (ys : List Cell). set (set (set ys (j + 1) (get_or page (j + 1) Unwritten)) (j + 2) x) (j + 3) y) (set-got page j)
    ∙ (ap (λ (ys : List Cell). set (set ys (j + 2) x) (j + 3) y) (set-got page (j + 1))
    ∙ ap (λ i. set (set page (j + 2) x) i y) at)
four-two page j (suc (suc (suc k))) x y h = absurd (omega arith)

pub one_set : (page four : List Cell) (j : ℕ) (x : Cell) → four ≡ four_of page (4 * (j / 4)) → four_in page (4 * (j / 4)) (set four (j % 4) x) ≡ set page j x
one_set page four j x are =
    let at : 4 * (j / 4) + j % 4 ≡ j = omega arith in
    ap (λ (xs : List Cell). four_in page (4 * (j / 4)) (set xs (j % 4) x)) are ∙ (four-one page (4 * (j / 4)) (j % 4) x (omega arith) ∙ ap (λ i. set page i x) at)

pub two_set : (page four : List Cell) (j : ℕ) (x y : Cell) → four ≡ four_of page (4 * (j / 4)) → j % 4 < 3 → four_in page (4 * (j / 4)) (set (set four (j % 4) x) (j % 4 + 1) y) ≡ set (set page j x) (j + 1) y
two_set page four j x y are near =
    let at : 4 * (j / 4) + j % 4 ≡ j = omega arith in
    ap (λ (xs : List Cell). four_in page (4 * (j / 4)) (set (set xs (j % 4) x) (j % 4 + 1) y)) are ∙ (four-two page (4 * (j / 4)) (j % 4) x y near ∙ ap (λ i. set (set page i x) (i + 1) y) at)

-- a cell becomes unwritten
gone : (written : List Bool) (k : ℕ) → get_or (set written k false) k false ≡ false
gone [] k = refl
gone (b ∷ bs) zero = refl
gone (b ∷ bs) (suc k) = gone bs k

all-true : (k : ℕ) → k < 4 → get_or (true ∷ true ∷ true ∷ true ∷ []) k false ≡ true
all-true zero h = refl
all-true (suc zero) h = refl
all-true (suc (suc zero)) h = refl
all-true (suc (suc (suc zero))) h = refl
all-true (suc (suc (suc (suc k)))) h = absurd (omega arith)

set-here : (xs : List Cell) (j : ℕ) → get_or (set xs j Unwritten) j Unwritten ≡ Unwritten
set-here [] j = refl
set-here (x ∷ xs) zero = refl
set-here (x ∷ xs) (suc j) = set-here xs j

wiped-here : (quad : Quad) (k : ℕ) → found (wiped quad k) k Unwritten ≡ Unwritten
wiped-here (Whole w) k = ap (λ b. cell_if b w k) (gone (true ∷ true ∷ true ∷ true ∷ []) k)
wiped-here (Part w written) k = ap (λ b. cell_if b w k) (gone written k)
wiped-here Mixed k = refl

wiped-else : (quad : Quad) (k i : ℕ) (loose : Cell) → i ≢ k → i < 4 → found (wiped quad k) i loose ≡ found quad i loose
wiped-else (Whole w) k i loose ne h = ap (λ b. cell_if b w i) (get_or-set_other (true ∷ true ∷ true ∷ true ∷ []) k i false false ne ∙ all-true i h)
wiped-else (Part w written) k i loose ne h = ap (λ b. cell_if b w i) (get_or-set_other written k i false false ne)
wiped-else Mixed k i loose ne h = refl

-- one cell of a quad is another one
cell-changed : (quads : List Quad) (loose after : List Cell) (j : ℕ) (quad new : Quad) (c : Cell) → j < 4 * length quads → quad ≡ get_or quads (j / 4) Mixed → found new (j % 4) (get_or after j Unwritten) ≡ c → ((i : ℕ) (x : Cell) → i ≢ j % 4 → i < 4 → found new i x ≡ found quad i x) → ((i : ℕ) → i ≢ j → get_or after i Unwritten ≡ get_or loose i Unwritten) → page_cells (set quads (j / 4) new) after ≡ set (page_cells quads loose) j c
cell-changed quads loose after j quad new c less is put kept same =
    ap (λ m. listed (4 * m) (cell_of later after)) (length-set quads (j / 4) new) ∙ listed-set (4 * length quads) (cell_of quads loose) (cell_of later after) j c less here others
  where
    later : List Quad
    later = set quads (j / 4) new

    there : (i : ℕ) → i / 4 ≡ j / 4 → get_or later (i / 4) Mixed ≡ new
    there i e = let m = less in ap (λ p. get_or later p Mixed) e ∙ get_or-set_same quads (j / 4) new Mixed (omega arith)

    here : cell_of later after j ≡ c
    here = ap (λ (q : Quad). found q (j % 4) (get_or after j Unwritten)) (there j refl) ∙ put

    others : (i : ℕ) → i ≢ j → cell_of later after i ≡ cell_of quads loose i
    others i ne = by (i / 4 == j / 4) refl
      where
        by : (b : Bool) → (i / 4 == j / 4) ≡ b → cell_of later after i ≡ cell_of quads loose i
        by true e =
            let near = eq-true (i / 4) (j / 4) e in
            (λ t. found (there i near t) (i % 4) (same i ne t))
            ∙ (kept (i % 4) (get_or loose i Unwritten) (λ s. ne (omega arith)) (omega arith)
            ∙ ap (λ (q : Quad). found q (i % 4) (get_or loose i Unwritten)) (is ∙ ap (λ p. get_or quads p Mixed) (sym near)))
        by false e =
            let far = get_or-set_other quads (j / 4) (i / 4) new Mixed (eq-false (i / 4) (j / 4) e) in
            λ t. found (far t) (i % 4) (same i ne t)

pub cell_put : (quads : List Quad) (loose : List Cell) (self : Sheet) (j : ℕ) (quad new : Quad) (c : Cell) → sheet quads loose ≡ self → j < length self.cells → quad ≡ get_or quads (j / 4) quad → IsPutIn quad (j % 4) c new → (sheet (set quads (j / 4) new) loose).cells ≡ set self.cells j c
cell_put quads loose self j quad new c view l is put =
    let n = seen-length quads loose self view in
    let there : quad ≡ get_or quads (j / 4) Mixed = any-default quads (j / 4) quad Mixed is (omega arith) in
    cell-changed quads loose loose j quad new c (omega arith) there (put.here (get_or loose j Unwritten)) put.others (λ i ne. refl)
    ∙ ap (λ (s : Sheet). set s.cells j c) view

-- a byte of a number is another one
pub whole_number : (w : Word) → w.tag ≡ 0 → whole_cells w ≡ number w
whole_number w none = ap (λ t. cond (t == 0) (number w) (pointer w)) none

whole-pointer : (w : Word) → w.tag ≢ 0 → whole_cells w ≡ pointer w
whole-pointer w some = ap (λ b. cond b (number w) (pointer w)) (is-other w.tag 0 some)

pub piece_at : (w : Word) (k : ℕ) → w.tag ≢ 0 → k < 4 → Frag w.bits w.tag k ≡ get_or (whole_cells w) k Unwritten
piece_at w zero some h = sym (ap (λ (row : List Cell). get_or row 0 Unwritten) (whole-pointer w some))
piece_at w (suc zero) some h = sym (ap (λ (row : List Cell). get_or row 1 Unwritten) (whole-pointer w some))
piece_at w (suc (suc zero)) some h = sym (ap (λ (row : List Cell). get_or row 2 Unwritten) (whole-pointer w some))
piece_at w (suc (suc (suc zero))) some h = sym (ap (λ (row : List Cell). get_or row 3 Unwritten) (whole-pointer w some))
piece_at w (suc (suc (suc (suc k)))) some h = absurd (omega arith)

byte-at : (w : Word) (k n : ℕ) → w.tag ≡ 0 → k ≡ n → get_or (number w) n Unwritten ≡ get_or (whole_cells w) k Unwritten
byte-at w k n none at = sym (ap (λ (row : List Cell). get_or row k Unwritten) (whole_number w none) ∙ ap (λ i. get_or (number w) i Unwritten) at)

pub first_byte : (w : Word) (k : ℕ) → w.tag ≡ 0 → k ≡ 0 → Byte (w.bits % 256) ≡ get_or (whole_cells w) k Unwritten
first_byte w k none at = byte-at w k 0 none at

pub second_byte : (w : Word) (k : ℕ) → w.tag ≡ 0 → k ≡ 1 → Byte (w.bits / 256 % 256) ≡ get_or (whole_cells w) k Unwritten
second_byte w k none at = byte-at w k 1 none at

pub third_byte : (w : Word) (k : ℕ) → w.tag ≡ 0 → k ≡ 2 → Byte (w.bits / 65536 % 256) ≡ get_or (whole_cells w) k Unwritten
third_byte w k none at = byte-at w k 2 none at

pub last_byte : (w : Word) (k : ℕ) → w.tag ≡ 0 → k < 4 → k ≢ 0 → k ≢ 1 → k ≢ 2 → Byte (w.bits / 16777216 % 256) ≡ get_or (whole_cells w) k Unwritten
last_byte w k none less a b c = let at : k ≡ 3 = grind arith in byte-at w k 3 none at

byte-set : (w new : Word) (k byte : ℕ) (row : List Cell) → w.tag ≡ 0 → row ≡ whole_cells new → row ≡ set (number w) k (Byte byte) → whole_cells new ≡ set (whole_cells w) k (Byte byte)
byte-set w new k byte row none are is = sym are ∙ (is ∙ ap (λ (r : List Cell). set r k (Byte byte)) (sym (whole_number w none)))

pub byte_first : (w new : Word) (k byte : ℕ) → w.tag ≡ 0 → k ≡ 0 → Byte byte ∷ Byte (w.bits / 256 % 256) ∷ Byte (w.bits / 65536 % 256) ∷ Byte (w.bits / 16777216 % 256) ∷ [] ≡ whole_cells new → whole_cells new ≡ set (whole_cells w) k (Byte byte)
byte_first w new k byte none at are = byte-set w new k byte (set (number w) 0 (Byte byte)) none are (ap (λ i. set (number w) i (Byte byte)) (sym at))

pub byte_second : (w new : Word) (k byte : ℕ) → w.tag ≡ 0 → k ≡ 1 → Byte (w.bits % 256) ∷ Byte byte ∷ Byte (w.bits / 65536 % 256) ∷ Byte (w.bits / 16777216 % 256) ∷ [] ≡ whole_cells new → whole_cells new ≡ set (whole_cells w) k (Byte byte)
byte_second w new k byte none at are = byte-set w new k byte (set (number w) 1 (Byte byte)) none are (ap (λ i. set (number w) i (Byte byte)) (sym at))

pub byte_third : (w new : Word) (k byte : ℕ) → w.tag ≡ 0 → k ≡ 2 → Byte (w.bits % 256) ∷ Byte (w.bits / 256 % 256) ∷ Byte byte ∷ Byte (w.bits / 16777216 % 256) ∷ [] ≡ whole_cells new → whole_cells new ≡ set (whole_cells w) k (Byte byte)
byte_third w new k byte none at are = byte-set w new k byte (set (number w) 2 (Byte byte)) none are (ap (λ i. set (number w) i (Byte byte)) (sym at))

pub byte_last : (w new : Word) (k byte : ℕ) → w.tag ≡ 0 → k < 4 → k ≢ 0 → k ≢ 1 → k ≢ 2 → Byte (w.bits % 256) ∷ Byte (w.bits / 256 % 256) ∷ Byte (w.bits / 65536 % 256) ∷ Byte byte ∷ [] ≡ whole_cells new → whole_cells new ≡ set (whole_cells w) k (Byte byte)
byte_last w new k byte none less a b c are =
    let at : k ≡ 3 = grind arith in
    byte-set w new k byte (set (number w) 3 (Byte byte)) none are (ap (λ i. set (number w) i (Byte byte)) (sym at))

pub whole_put : (w new : Word) (k : ℕ) (c : Cell) → k < 4 → whole_cells new ≡ set (whole_cells w) k c → IsPutIn (Whole w) k c (Whole new)
whole_put w new k c less are =
    let four : length (whole_cells w) ≡ 4 = ap length (four-whole w) in
    record {
      here = λ loose. ap (λ (row : List Cell). get_or row k Unwritten) are ∙ get_or-set_same (whole_cells w) k c Unwritten (rw four less);
      others = λ i loose ne h. ap (λ (row : List Cell). get_or row i Unwritten) are ∙ get_or-set_other (whole_cells w) k i c Unwritten ne;
    }

pub cell_wiped_so : (quads : List Quad) (loose after : List Cell) (self : Sheet) (j : ℕ) (quad new : Quad) → sheet quads loose ≡ self → j < length self.cells → quad ≡ get_or quads (j / 4) quad → new ≡ wiped quad (j % 4) → after ≡ set loose j Unwritten → sheet (set quads (j / 4) new) after ≡ with_cells self (set self.cells j Unwritten)
cell_wiped_so quads loose after self j quad new view l is so put =
    let n = seen-length quads loose self view in
    let there : quad ≡ get_or quads (j / 4) Mixed = any-default quads (j / 4) quad Mixed is (omega arith) in
    let here : found (wiped quad (j % 4)) (j % 4) (get_or (set loose j Unwritten) j Unwritten) ≡ Unwritten = ap (found (wiped quad (j % 4)) (j % 4)) (set-here loose j) ∙ wiped-here quad (j % 4) in
    let cells = cell-changed quads loose (set loose j Unwritten) j quad (wiped quad (j % 4)) Unwritten (omega arith) there here (λ i x ne h. wiped-else quad (j % 4) i x ne h) (λ i ne. get_or-set_other loose j i Unwritten Unwritten ne) in
    (λ t. sheet (set quads (j / 4) (so t)) (put t))
    ∙ ((λ t. record { cells = cells t; room = length-set loose j Unwritten t }) ∙ ap (λ (s : Sheet). with_cells s (set s.cells j Unwritten)) view)

-- the second list keeps its length
pub fits_still : (quads : List Quad) (loose : List Cell) (q : ℕ) (quad : Quad) (after : List Cell) → IsPage quads loose → length after ≡ length loose → IsPage (set quads q quad) after
fits_still quads loose q quad after fits same =
    let n = length-set quads q quad in
    record { few = rw n fits.few; room = elim fits.room [ inl none ↦ inl (same ∙ none) | inr all ↦ inr (same ∙ (all ∙ ap (λ m. 4 * m) (sym n))) ] }

-- a byte is put among the written cells of a word
pub part_put : (w new : Word) (written : List Bool) (k : ℕ) (c : Cell) (quad : Quad) → k < 4 → length written ≡ 4 → whole_cells new ≡ set (whole_cells w) k c → ((i : ℕ) (x : Cell) → i < 4 → found quad i x ≡ found (Part new (set written k true)) i x) → IsPutIn (Part w written) k c quad
part_put w new written k c quad less count are stands =
    let four : length (whole_cells w) ≡ 4 = ap length (four-whole w) in
    let mark : get_or (set written k true) k false ≡ true = get_or-set_same written k true false (rw count less) in
    record {
      here = λ loose. stands k loose less ∙ (ap (λ b. cell_if b new k) mark ∙ (ap (λ (row : List Cell). get_or row k Unwritten) are ∙ get_or-set_same (whole_cells w) k c Unwritten (rw four less)));
      others = λ i loose ne h. stands i loose h ∙ (λ t. cond (get_or-set_other written k i true false ne t) ((ap (λ (row : List Cell). get_or row i Unwritten) are ∙ get_or-set_other (whole_cells w) k i c Unwritten ne) t) Unwritten);
    }

pub all_marked : (w : Word) (written : List Bool) (k : ℕ) (loose : Cell) → get_or written 0 false ≡ true → get_or written 1 false ≡ true → get_or written 2 false ≡ true → get_or written 3 false ≡ true → k < 4 → found (Whole w) k loose ≡ found (Part w written) k loose
all_marked w written zero loose a b c d h = sym (ap (λ t. cell_if t w 0) a)
all_marked w written (suc zero) loose a b c d h = sym (ap (λ t. cell_if t w 1) b)
all_marked w written (suc (suc zero)) loose a b c d h = sym (ap (λ t. cell_if t w 2) c)
all_marked w written (suc (suc (suc zero))) loose a b c d h = sym (ap (λ t. cell_if t w 3) d)
all_marked w written (suc (suc (suc (suc k)))) loose a b c d h = absurd (omega arith)
