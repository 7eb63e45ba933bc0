-- Cells in pages, seen as one list.
use Rattle.std.proofs.Common.{◌≡◌, ◌≢◌, ◌⊎◌, inl, inr, ℕ, zero, suc, ◌+◌, ◌-◌, ◌*◌, ◌/◌, ◌%◌, ◌^◌, ◌<◌, ◌≤◌, ◌==◌, Bool, true, false, cond, List, [], ◌∷◌, ◌++◌, length, take, drop, replicate, set, get_or, refl, sym, ap, ◌∙◌, subst, Option, None, Some, arith}
use Rattle.std.proofs.lemmas.Bool.Decides.{nat_tests}
use Rattle.std.proofs.lemmas.List.{get_or-set_other, get_or-set_same, length-replicate, length-set, places, take_more}
use Rattle.std.specs.Prelude.{⊤, IfSome, MatchResult, OnOk, Result, Ok, Err}
use Rattle.sc_base.specs.declared.NoMemory.{NoMemory}
use Rattle.std.specs.List.{slice_get}
use Rattle.sc_base.specs.declared.memory.Cell.{Cell}
use Rattle.sc_base.specs.declared.memory.Cell.TheVariants.{Byte, Frag, Unwritten}
use Rattle.sc_base.specs.declared.memory.Word.{Word}
use Rattle.sc_cells.specs.Pages.{AreRoomy, Grows, IsPaged, IsRoomy, IsTaken, Rewritten, SameShape, Sheet, at_place, blank, cells_in, four_in, four_of, four_set, listed, page_of, set_page, set_place, sheet_of, untaken, whole_cells, with_cells, with_page}
use Rattle.sc_cells.specs.Range.{range_of, with_range}
use Rattle.sc_cells.proofs.Ranges.{downward-step, range_of-cons, upward-step, with_range-push}

pub eq-true : (m n : ℕ) → (m == n) ≡ true → m ≡ n
eq-true m n h = grind (arith, nat_tests)

pub eq-false : (m n : ℕ) → (m == n) ≡ false → m ≢ n
eq-false m n h = grind (arith, nat_tests)

-- lists of what a function has
module _ {A : Type 0} where
  pub length-listed : (n : ℕ) (f : ℕ → A) → length (listed n f) ≡ n
  length-listed zero f = refl
  length-listed (suc n) f = ap suc (length-listed n (λ i. f (suc i)))

  pub listed-same : (n : ℕ) (f g : ℕ → A) → ((i : ℕ) → g i ≡ f i) → listed n g ≡ listed n f
  listed-same zero f g h = refl
  listed-same (suc n) f g h = λ k. h zero k ∷ listed-same n (λ i. f (suc i)) (λ i. g (suc i)) (λ i. h (suc i)) k

  pub listed-get : (n : ℕ) (f : ℕ → A) (i : ℕ) (d : A) → i < n → get_or (listed n f) i d ≡ f i
  listed-get zero f i d h = absurd (omega arith)
  listed-get (suc n) f zero d h = refl
  listed-get (suc n) f (suc i) d h = listed-get n (λ j. f (suc j)) i d (omega arith)

  pub listed-set : (n : ℕ) (f g : ℕ → A) (i : ℕ) (c : A) → i < n → g i ≡ c → ((j : ℕ) → j ≢ i → g j ≡ f j) → listed n g ≡ set (listed n f) i c
  listed-set zero f g i c l is others = absurd (omega arith)
  listed-set (suc n) f g zero c l is others = λ k. is k ∷ listed-same n (λ i. f (suc i)) (λ i. g (suc i)) (λ i. others (suc i) (λ e. absurd (omega arith))) k
  listed-set (suc n) f g (suc i) c l is others = λ k. others zero (λ e. absurd (omega arith)) k ∷ listed-set n (λ j. f (suc j)) (λ j. g (suc j)) i c (omega arith) is (λ j ne. others (suc j) (λ e. ne (omega arith))) k

  pub replicate-get : (n i : ℕ) (x : A) → get_or (replicate n x) i x ≡ x
  replicate-get zero i x = refl
  replicate-get (suc n) zero x = refl
  replicate-get (suc n) (suc i) x = replicate-get n i x

  pub none-get : (xs : List A) (i : ℕ) (x : A) → length xs ≡ 0 → get_or xs i x ≡ x
  none-get [] i x h = refl
  none-get (y ∷ xs) i x h = absurd (omega arith)

  pub any-default : (xs : List A) (i : ℕ) (x d : A) → x ≡ get_or xs i x → i < length xs → x ≡ get_or xs i d
  any-default [] i x d e l = absurd (omega arith)
  any-default (y ∷ xs) zero x d e l = e
  any-default (y ∷ xs) (suc i) x d e l = any-default xs i x d e (omega arith)

sheet-same : (pages : List Sheet) (p : ℕ) (s : Sheet) → p < length pages → sheet_of (set pages p s) p ≡ s
sheet-same pages p s h = get_or-set_same pages p s untaken h

sheet-other : (pages : List Sheet) (p q : ℕ) (s : Sheet) → q ≢ p → sheet_of (set pages p s) q ≡ sheet_of pages q
sheet-other pages p q s ne = get_or-set_other pages p q s untaken ne

page-same : (pages : List Sheet) (p : ℕ) (xs : List Cell) → p < length pages → page_of (set_page pages p xs) p ≡ xs
page-same pages p xs h = ap (λ (s : Sheet). s.cells) (sheet-same pages p (with_cells (sheet_of pages p) xs) h)

page-other : (pages : List Sheet) (p q : ℕ) (xs : List Cell) → q ≢ p → page_of (set_page pages p xs) q ≡ page_of pages q
page-other pages p q xs ne = ap (λ (s : Sheet). s.cells) (sheet-other pages p q (with_cells (sheet_of pages p) xs) ne)

-- the pages of n cells from a place on are there and taken
abbrev pub AreTaken : List Sheet → ℕ → ℕ → Type 0
AreTaken pages at n = (i : ℕ) → at ≤ i → i < at + n → IsTaken pages (i / 8192)

pub are-taken : (pages : List Sheet) (at n : ℕ) → AreRoomy pages at n → AreTaken pages at n
are-taken pages at n roomy = λ i a b. (roomy i a b).0

-- where one sheet is as another, so is its room
roomy-same : (s t : Sheet) → t ≡ s → (length s.cells ≡ 8192) × (s.room ≡ length s.cells) → (length t.cells ≡ 8192) × (t.room ≡ length t.cells)
roomy-same s t e r = subst (λ (u : Sheet). (length u.cells ≡ 8192) × (u.room ≡ length u.cells)) (sym e) r

-- one cell is changed
at-same : (pages : List Sheet) (i : ℕ) (c : Cell) → i / 8192 < length pages → IsTaken pages (i / 8192) → at_place (set_place pages i c) i ≡ c
at-same pages i c l taken =
    let page = page_of pages (i / 8192) in
    ap (λ (xs : List Cell). get_or xs (i % 8192) Unwritten) (page-same pages (i / 8192) (set page (i % 8192) c) l) ∙ get_or-set_same page (i % 8192) c Unwritten (omega arith)

at-other : (pages : List Sheet) (i j : ℕ) (c : Cell) → i / 8192 < length pages → j ≢ i → at_place (set_place pages i c) j ≡ at_place pages j
at-other pages i j c l ne = by (j / 8192 == i / 8192) refl
  where
    page : List Cell
    page = page_of pages (i / 8192)

    by : (b : Bool) → (j / 8192 == i / 8192) ≡ b → at_place (set_place pages i c) j ≡ at_place pages j
    by true e =
        let p = eq-true (j / 8192) (i / 8192) e in
        ap (λ q. get_or (page_of (set_place pages i c) q) (j % 8192) Unwritten) p
        ∙ (ap (λ (xs : List Cell). get_or xs (j % 8192) Unwritten) (page-same pages (i / 8192) (set page (i % 8192) c) l)
        ∙ (get_or-set_other page (i % 8192) (j % 8192) c Unwritten (λ s. ne (omega arith))
        ∙ ap (λ q. get_or (page_of pages q) (j % 8192) Unwritten) (sym p)))
    by false e = ap (λ (xs : List Cell). get_or xs (j % 8192) Unwritten) (page-other pages (i / 8192) (j / 8192) (set page (i % 8192) c) (eq-false (j / 8192) (i / 8192) e))

pub shape-set : (pages : List Sheet) (i : ℕ) (c : Cell) → i / 8192 < length pages → SameShape pages (set_place pages i c)
shape-set pages i c l = record {
  count = length-set pages (i / 8192) (with_cells (sheet_of pages (i / 8192)) (set (page_of pages (i / 8192)) (i % 8192) c));
  sizes = λ q. by q (q == i / 8192) refl;
  rooms = λ q. room q (q == i / 8192) refl;
}
  where
    page : List Cell
    page = page_of pages (i / 8192)

    room : (q : ℕ) (b : Bool) → (q == i / 8192) ≡ b → (sheet_of (set_place pages i c) q).room ≡ (sheet_of pages q).room
    room q true e =
        let p = eq-true q (i / 8192) e in
        ap (λ n. (sheet_of (set_place pages i c) n).room) p
        ∙ (ap (λ (s : Sheet). s.room) (sheet-same pages (i / 8192) (with_cells (sheet_of pages (i / 8192)) (set page (i % 8192) c)) l) ∙ ap (λ n. (sheet_of pages n).room) (sym p))
    room q false e = ap (λ (s : Sheet). s.room) (sheet-other pages (i / 8192) q (with_cells (sheet_of pages (i / 8192)) (set page (i % 8192) c)) (eq-false q (i / 8192) e))

    by : (q : ℕ) (b : Bool) → (q == i / 8192) ≡ b → length (page_of (set_place pages i c) q) ≡ length (page_of pages q)
    by q true e =
        let p = eq-true q (i / 8192) e in
        ap (λ n. length (page_of (set_place pages i c) n)) p
        ∙ (ap length (page-same pages (i / 8192) (set page (i % 8192) c) l) ∙ (length-set page (i % 8192) c ∙ ap (λ n. length (page_of pages n)) (sym p)))
    by q false e = ap length (page-other pages (i / 8192) q (set page (i % 8192) c) (eq-false q (i / 8192) e))

pub cells-set : (n : ℕ) (pages : List Sheet) (i : ℕ) (c : Cell) → i < n → i / 8192 < length pages → IsTaken pages (i / 8192) → cells_in n (set_place pages i c) ≡ set (cells_in n pages) i c
cells-set n pages i c l inside taken = listed-set n (at_place pages) (at_place (set_place pages i c)) i c l (at-same pages i c inside taken) (λ j ne. at-other pages i j c inside ne)

-- a page is taken
-- another sheet with the same cells, and as much room or all
pub grows-set : (pages : List Sheet) (p : ℕ) (s : Sheet) → p < length pages → s.cells ≡ page_of pages p → (s.room ≡ (sheet_of pages p).room) ⊎ (s.room ≡ length (page_of pages p)) → Grows pages (set pages p s)
grows-set pages p s l same room = record {
  count = length-set pages p s;
  sizes = λ q. inl (ap length (cells q (q == p) refl));
  rooms = λ q. roomed q (q == p) refl;
  same = λ i. ap (λ (xs : List Cell). get_or xs (i % 8192) Unwritten) (cells (i / 8192) (i / 8192 == p) refl);
}
  where
    cells : (q : ℕ) (b : Bool) → (q == p) ≡ b → page_of (set pages p s) q ≡ page_of pages q
    cells q true e = let is = eq-true q p e in ap (λ n. page_of (set pages p s) n) is ∙ (ap (λ (u : Sheet). u.cells) (sheet-same pages p s l) ∙ (same ∙ ap (λ n. page_of pages n) (sym is)))
    cells q false e = ap (λ (u : Sheet). u.cells) (sheet-other pages p q s (eq-false q p e))

    here : IsRoomy pages p → (length s.cells ≡ 8192) × (s.room ≡ length s.cells)
    here before = (ap length same ∙ before.0, elim room [ inl kept ↦ kept ∙ (before.1 ∙ sym (ap length same)) | inr all ↦ all ∙ sym (ap length same) ])

    roomed : (q : ℕ) (b : Bool) → (q == p) ≡ b → IsRoomy pages q → IsRoomy (set pages p s) q
    roomed q true e before =
        let is = eq-true q p e in
        subst (IsRoomy (set pages p s)) (sym is) (roomy-same s (sheet_of (set pages p s) p) (sheet-same pages p s l) (here (subst (IsRoomy pages) is before)))
    roomed q false e before = roomy-same (sheet_of pages q) (sheet_of (set pages p s) q) (sheet-other pages p q s (eq-false q p e)) before

pub roomy-set : (pages : List Sheet) (p : ℕ) (s : Sheet) → p < length pages → IsTaken pages p → s.cells ≡ page_of pages p → s.room ≡ length (page_of pages p) → IsRoomy (set pages p s) p
roomy-set pages p s l taken same all = roomy-same s (sheet_of (set pages p s) p) (sheet-same pages p s l) (ap length same ∙ taken, all ∙ sym (ap length same))

-- a page is taken
pub grows-page : (pages : List Sheet) (p : ℕ) → p < length pages → Grows pages (with_page pages p)
grows-page pages p l = by (length (page_of pages p) == 0) refl
  where
    here : page_of (set pages p blank) p ≡ replicate 8192 Unwritten
    here = ap (λ (s : Sheet). s.cells) (sheet-same pages p blank l)

    else : (q : ℕ) → q ≢ p → page_of (set pages p blank) q ≡ page_of pages q
    else q ne = ap (λ (s : Sheet). s.cells) (sheet-other pages p q blank ne)

    taken : length (page_of pages p) ≡ 0 → Grows pages (set pages p blank)
    taken none = record {
      count = length-set pages p blank;
      sizes = λ q. sized q (q == p) refl;
      rooms = λ q. roomed q (q == p) refl;
      same = λ i. found i (i / 8192 == p) refl;
    }
      where
        sized : (q : ℕ) (b : Bool) → (q == p) ≡ b → (length (page_of (set pages p blank) q) ≡ length (page_of pages q)) ⊎ IsTaken (set pages p blank) q
        sized q true e = inr (ap (λ n. length (page_of (set pages p blank) n)) (eq-true q p e) ∙ (ap length here ∙ length-replicate 8192 Unwritten))
        sized q false e = inl (ap length (else q (eq-false q p e)))

        roomed : (q : ℕ) (b : Bool) → (q == p) ≡ b → IsRoomy pages q → IsRoomy (set pages p blank) q
        roomed q true e before =
            let full : length (page_of pages p) ≡ 8192 = ap (λ n. length (page_of pages n)) (sym (eq-true q p e)) ∙ before.0 in
            absurd (omega arith)
        roomed q false e before = roomy-same (sheet_of pages q) (sheet_of (set pages p blank) q) (sheet-other pages p q blank (eq-false q p e)) before

        found : (i : ℕ) (b : Bool) → (i / 8192 == p) ≡ b → at_place (set pages p blank) i ≡ at_place pages i
        found i true e =
            let is = eq-true (i / 8192) p e in
            ap (λ n. get_or (page_of (set pages p blank) n) (i % 8192) Unwritten) is
            ∙ (ap (λ (xs : List Cell). get_or xs (i % 8192) Unwritten) here
            ∙ (replicate-get 8192 (i % 8192) Unwritten
            ∙ (sym (none-get (page_of pages p) (i % 8192) Unwritten none) ∙ ap (λ n. get_or (page_of pages n) (i % 8192) Unwritten) (sym is))))
        found i false e = ap (λ (xs : List Cell). get_or xs (i % 8192) Unwritten) (else (i / 8192) (eq-false (i / 8192) p e))

    by : (b : Bool) → (length (page_of pages p) == 0) ≡ b → Grows pages (cond b (set pages p blank) pages)
    by true e = taken (eq-true (length (page_of pages p)) 0 e)
    by false e = record { count = refl; sizes = λ q. inl refl; rooms = λ q before. before; same = λ i. refl }

pub taken-page : (pages : List Sheet) (p : ℕ) → p < length pages → (length (page_of pages p) ≡ 0) ⊎ IsTaken pages p → IsTaken (with_page pages p) p
taken-page pages p l whole = by (length (page_of pages p) == 0) refl
  where
    by : (b : Bool) → (length (page_of pages p) == 0) ≡ b → IsTaken (cond b (set pages p blank) pages) p
    by true e = ap (λ (s : Sheet). length s.cells) (sheet-same pages p blank l) ∙ length-replicate 8192 Unwritten
    by false e = elim whole [ inl a ↦ absurd (eq-false (length (page_of pages p)) 0 e a) | inr b ↦ b ]

pub grows-then : (a b c : List Sheet) → Grows a b → Grows b c → Grows a c
grows-then a b c first second = record {
  count = second.count ∙ first.count;
  sizes = λ p. elim (second.sizes p) [ inl same ↦ elim (first.sizes p) [ inl before ↦ inl (same ∙ before) | inr taken ↦ inr (same ∙ taken) ] | inr taken ↦ inr taken ];
  rooms = λ p before. second.rooms p (first.rooms p before);
  same = λ i. second.same i ∙ first.same i;
}

pub grows-none : (a : List Sheet) → Grows a a
grows-none a = record { count = refl; sizes = λ p. inl refl; rooms = λ p before. before; same = λ i. refl }

pub stays-taken : (a b : List Sheet) (p : ℕ) → Grows a b → IsTaken a p → IsTaken b p
stays-taken a b p grows taken = elim (grows.sizes p) [ inl same ↦ same ∙ taken | inr there ↦ there ]

pub cells-grown : (n : ℕ) (a b : List Sheet) → Grows a b → cells_in n b ≡ cells_in n a
cells-grown n a b grows = listed-same n (at_place a) (at_place b) grows.same

pub paged-grown : (a b : List Sheet) (size : ℕ) → IsPaged a size → Grows a b → IsPaged b size
paged-grown a b size paged grows = record {
  small = paged.small;
  enough = rw grows.count paged.enough;
  whole = λ p. elim (grows.sizes p) [ inl same ↦ elim (paged.whole p) [ inl none ↦ inl (same ∙ none) | inr taken ↦ inr (same ∙ taken) ] | inr taken ↦ inr taken ];
}

pub paged-shape : (a b : List Sheet) (size : ℕ) → IsPaged a size → SameShape a b → IsPaged b size
paged-shape a b size paged shape = record {
  small = paged.small;
  enough = rw shape.count paged.enough;
  whole = λ p. elim (paged.whole p) [ inl none ↦ inl (shape.sizes p ∙ none) | inr taken ↦ inr (shape.sizes p ∙ taken) ];
}

pub shape-none : (a : List Sheet) → SameShape a a
shape-none a = record { count = refl; sizes = λ p. refl; rooms = λ p. refl }

pub shape-then : (a b c : List Sheet) → SameShape a b → SameShape b c → SameShape a c
shape-then a b c first second = record { count = second.count ∙ first.count; sizes = λ p. second.sizes p ∙ first.sizes p; rooms = λ p. second.rooms p ∙ first.rooms p }

-- pages are taken one after another, and room in them
pub record GrownTo (old new : List Sheet) (first end : ℕ) : Type 0 where
  pub grows : Grows old new
  pub roomy : (p : ℕ) → first ≤ p → p < end → IsRoomy new p

pub grown-none : (old : List Sheet) (first : ℕ) → GrownTo old old first first
grown-none old first = record { grows = grows-none old; roomy = λ p a b. absurd (omega arith) }

pub grown-more : (old now new : List Sheet) (first p : ℕ) → GrownTo old now first p → Grows now new → IsRoomy new p → GrownTo old new first (p + 1)
grown-more old now new first p before grows here = record {
  grows = grows-then old now new before.grows grows;
  roomy = λ q a b. by q a b (q == p) refl;
}
  where
    less : (q : ℕ) → q ≢ p → q < p + 1 → q < p
    less q ne h = grind arith

    by : (q : ℕ) → first ≤ q → q < p + 1 → (b : Bool) → (q == p) ≡ b → IsRoomy new q
    by q a c true e = subst (IsRoomy new) (sym (eq-true q p e)) here
    by q a c false e = grows.rooms q (before.roomy q a (less q (eq-false q p e) c))

pub whole-still : (old now : List Sheet) (q : ℕ) → Grows old now → (length (page_of old q) ≡ 0) ⊎ IsTaken old q → (length (page_of now q) ≡ 0) ⊎ IsTaken now q
whole-still old now q grows whole = elim (grows.sizes q) [ inl same ↦ elim whole [ inl none ↦ inl (same ∙ none) | inr there ↦ inr (same ∙ there) ] | inr there ↦ inr there ]

-- cells are put one after another
pub roomy-now : (first now : List Sheet) (p : ℕ) → SameShape first now → IsRoomy first p → IsRoomy now p
roomy-now first now p shape before = (shape.sizes p ∙ before.0, shape.rooms p ∙ (before.1 ∙ sym (shape.sizes p)))

inside-now : (first now : List Sheet) (i n : ℕ) → SameShape first now → i < n → n ≤ 8192 * length first → i / 8192 < length now
inside-now first now i n shape l fits = rw shape.count (omega arith)

taken-now : (first now : List Sheet) (at n i : ℕ) → SameShape first now → AreTaken first at n → at ≤ i → i < at + n → IsTaken now (i / 8192)
taken-now first now at n i shape taken a b = shape.sizes (i / 8192) ∙ taken i a b

pub rewritten-none : (pages : List Sheet) (most at : ℕ) (part : List Cell → List Cell) → ((all : List Cell) → most ≤ length all → with_range all at (part all) ≡ all) → Rewritten pages pages most at part
rewritten-none pages most at part h = record {
  shape = shape-none pages;
  cells = λ size l. sym (h (cells_in size pages) (rw (length-listed size (at_place pages)) l));
}

pub row-step : (first now : List Sheet) (at k : ℕ) (row : List Cell) (c : Cell) → at + length row ≤ 8192 * length first → AreTaken first at (length row) → k < length row → c ≡ get_or row k Unwritten → Rewritten first now (at + length row) at (λ all. take k row) → Rewritten first (set_place now (at + k) c) (at + length row) at (λ all. take (k + 1) row)
row-step first now at k row c fits taken more is so =
    let inside = inside-now first now (at + k) (at + length row) so.shape (omega arith) fits in
    let there = taken-now first now at (length row) (at + k) so.shape taken (omega arith) (omega arith) in
    let part : length (take k row) ≡ k = search (arith, places) in
    record {
      shape = shape-then first now (set_place now (at + k) c) so.shape (shape-set now (at + k) c inside);
      cells = λ size l.
          let all = cells_in size first in
          let count : length all ≡ size = length-listed size (at_place first) in
          cells-set size now (at + k) c (omega arith) inside there
          ∙ (ap (λ (xs : List Cell). set xs (at + k) c) (so.cells size l)
          ∙ (ap (λ j. set (with_range all at (take k row)) (at + j) c) (sym part)
          ∙ (with_range-push all at (take k row) c (rw part (omega arith))
          ∙ ap (with_range all at) (ap (λ (x : Cell). take k row ++ x ∷ []) is ∙ sym (take_more row k Unwritten more)))));
    }

pub upward-copy : (first now : List Sheet) (to from n k : ℕ) (c : Cell) → from + n ≤ 8192 * length first → AreTaken first to n → to ≤ from → k < n → c ≡ at_place now (from + k) → Rewritten first now (from + n) to (λ all. range_of all from k) → Rewritten first (set_place now (to + k) c) (from + n) to (λ all. range_of all from (k + 1))
upward-copy first now to from n k c fits taken below more is so =
    let inside = inside-now first now (to + k) (from + n) so.shape (omega arith) fits in
    let there = taken-now first now to n (to + k) so.shape taken (omega arith) (omega arith) in
    record {
      shape = shape-then first now (set_place now (to + k) c) so.shape (shape-set now (to + k) c inside);
      cells = λ size l.
          let all = cells_in size first in
          let count : length all ≡ size = length-listed size (at_place first) in
          cells-set size now (to + k) c (omega arith) inside there
          ∙ (ap (set (cells_in size now) (to + k)) (is ∙ sym (listed-get size (at_place now) (from + k) Unwritten (omega arith)))
          ∙ upward-step all (cells_in size now) to from k Unwritten (rw count (omega arith)) below (so.cells size l));
    }

pub downward-copy : (first now : List Sheet) (to from n k : ℕ) (c : Cell) → to + n ≤ 8192 * length first → AreTaken first to n → from ≤ to → 0 < k → k ≤ n → c ≡ at_place now (from + (k - 1)) → Rewritten first now (to + n) (to + k) (λ all. range_of all (from + k) (n - k)) → Rewritten first (set_place now (to + (k - 1)) c) (to + n) (to + (k - 1)) (λ all. range_of all (from + (k - 1)) (n - (k - 1)))
downward-copy first now to from n k c fits taken above some most is so =
    let inside = inside-now first now (to + (k - 1)) (to + n) so.shape (omega arith) fits in
    let there = taken-now first now to n (to + (k - 1)) so.shape taken (omega arith) (omega arith) in
    record {
      shape = shape-then first now (set_place now (to + (k - 1)) c) so.shape (shape-set now (to + (k - 1)) c inside);
      cells = λ size l.
          let all = cells_in size first in
          let count : length all ≡ size = length-listed size (at_place first) in
          cells-set size now (to + (k - 1)) c (omega arith) inside there
          ∙ (ap (set (cells_in size now) (to + (k - 1))) (is ∙ sym (listed-get size (at_place now) (from + (k - 1)) Unwritten (omega arith)))
          ∙ downward-step all (cells_in size now) to from n k Unwritten some (most, rw count (omega arith)) above (so.cells size l));
    }

replicate-push : {A : Type 0} (n : ℕ) (x : A) → replicate n x ++ x ∷ [] ≡ replicate (n + 1) x
replicate-push {A} zero x = refl
replicate-push {A} (suc n) x =
    let same : suc (n + 1) ≡ suc n + 1 = omega arith in
    ap (λ (xs : List A). x ∷ xs) (replicate-push n x) ∙ ap (λ k. replicate k x) same

pub wipe-step : (first now new : List Sheet) (at n k : ℕ) → k < n → SameShape now new → ((size : ℕ) → at + k < size → cells_in size new ≡ set (cells_in size now) (at + k) Unwritten) → Rewritten first now (at + n) at (λ all. replicate k Unwritten) → Rewritten first new (at + n) at (λ all. replicate (k + 1) Unwritten)
wipe-step first now new at n k more shape law so = record {
  shape = shape-then first now new so.shape shape;
  cells = λ size l.
      let all = cells_in size first in
      let count : length all ≡ size = length-listed size (at_place first) in
      let blank : List Cell = replicate k Unwritten in
      let part : length blank ≡ k = length-replicate k Unwritten in
      law size (omega arith)
      ∙ (ap (λ (xs : List Cell). set xs (at + k) Unwritten) (so.cells size l)
      ∙ (ap (λ j. set (with_range all at blank) (at + j) Unwritten) (sym part)
      ∙ (with_range-push all at blank Unwritten (rw part (omega arith))
      ∙ ap (with_range all at) (replicate-push k Unwritten))));
}

-- a cell of a page that was taken, and one of a page that was not
pub wiped-taken : (pages new : List Sheet) (i n : ℕ) → new ≡ set_place pages i Unwritten → i / 8192 < length pages → (length (page_of pages (i / 8192)) ≡ 0) ⊎ IsTaken pages (i / 8192) → length (page_of pages (i / 8192)) ≢ 0 → i < n → cells_in n new ≡ set (cells_in n pages) i Unwritten
wiped-taken pages new i n is inside whole some l = elim whole [ inl none ↦ absurd (some none) | inr taken ↦ ap (cells_in n) is ∙ cells-set n pages i Unwritten l inside taken ]

pub wiped-none : (pages : List Sheet) (i n : ℕ) → length (page_of pages (i / 8192)) ≡ 0 → i < n → cells_in n pages ≡ set (cells_in n pages) i Unwritten
wiped-none pages i n none l = listed-set n (at_place pages) (at_place pages) i Unwritten l (none-get (page_of pages (i / 8192)) (i % 8192) Unwritten none) (λ j ne. refl)

pub listed-slice : {A : Type 0} (n : ℕ) (f : ℕ → A) (i : ℕ) → i < n → slice_get (listed n f) i ≡ Some (f i)
listed-slice zero f i h = absurd (omega arith)
listed-slice (suc n) f zero h = refl
listed-slice (suc n) f (suc i) h = listed-slice n (λ j. f (suc j)) i (omega arith)

-- where no page is taken
pub blank_paged : (pages : List Sheet) (count size : ℕ) → pages ≡ replicate count untaken → size < 2 ^ 32 → size ≤ 8192 * count → IsPaged pages size
blank_paged pages count size is small enough = rw is (record {
  small = small;
  enough = subst (λ n. size ≤ 8192 * n) (sym (length-replicate {A = Sheet} count untaken)) enough;
  whole = λ p. inl (ap (λ (s : Sheet). length s.cells) (replicate-get count p untaken));
})

pub all-same : (n : ℕ) (f : ℕ → Cell) → ((i : ℕ) → f i ≡ Unwritten) → listed n f ≡ replicate n Unwritten
all-same zero f h = refl
all-same (suc n) f h = λ k. h zero k ∷ all-same n (λ i. f (suc i)) (λ i. h (suc i)) k

pub blank_cells : (pages : List Sheet) (count n : ℕ) → pages ≡ replicate count untaken → cells_in n pages ≡ replicate n Unwritten
blank_cells pages count n is = rw is (all-same n (at_place (replicate count untaken)) (λ i. none-get (page_of (replicate count untaken) (i / 8192)) (i % 8192) Unwritten (ap (λ (s : Sheet). length s.cells) (replicate-get count (i / 8192) untaken))))

pub length_cells : (pages : List Sheet) (n : ℕ) → length (cells_in n pages) ≡ n
length_cells pages n = length-listed n (at_place pages)

pub read_cell : (pages : List Sheet) (n i : ℕ) → i < n → slice_get (cells_in n pages) i ≡ Some (at_place pages i)
read_cell pages n i h = listed-slice n (at_place pages) i h

-- four cells of one page
in-page : (pages : List Sheet) (i k : ℕ) → i % 8192 + k < 8192 → at_place pages (i + k) ≡ get_or (page_of pages (i / 8192)) (i % 8192 + k) Unwritten
in-page pages i k h =
    let p : (i + k) / 8192 ≡ i / 8192 = omega arith in
    let j : (i + k) % 8192 ≡ i % 8192 + k = omega arith in
    λ t. get_or (page_of pages (p t)) (j t) Unwritten

range-four : (all : List Cell) (i : ℕ) → i + 4 ≤ length all → range_of all i 4 ≡ get_or all i Unwritten ∷ get_or all (i + 1) Unwritten ∷ get_or all (i + 2) Unwritten ∷ get_or all (i + 3) Unwritten ∷ []
range-four all i h =
    let two : i + 1 + 1 ≡ i + 2 = omega arith in
    let three : i + 2 + 1 ≡ i + 3 = omega arith in
    let last : range_of all (i + 3) 1 ≡ get_or all (i + 3) Unwritten ∷ [] = range_of-cons all (i + 3) 0 Unwritten (omega arith) in
    let third : range_of all (i + 2) 2 ≡ get_or all (i + 2) Unwritten ∷ get_or all (i + 3) Unwritten ∷ [] = range_of-cons all (i + 2) 1 Unwritten (omega arith) ∙ ap (λ (xs : List Cell). get_or all (i + 2) Unwritten ∷ xs) (ap (λ k. range_of all k 1) three ∙ last) in
    let second : range_of all (i + 1) 3 ≡ get_or all (i + 1) Unwritten ∷ get_or all (i + 2) Unwritten ∷ get_or all (i + 3) Unwritten ∷ [] = range_of-cons all (i + 1) 2 Unwritten (omega arith) ∙ ap (λ (xs : List Cell). get_or all (i + 1) Unwritten ∷ xs) (ap (λ k. range_of all k 2) two ∙ third) in
    range_of-cons all i 3 Unwritten (omega arith) ∙ ap (λ (xs : List Cell). get_or all i Unwritten ∷ xs) second

pub four-cells : (pages : List Sheet) (size i : ℕ) → i + 4 ≤ size → i % 8192 + 4 ≤ 8192 → range_of (cells_in size pages) i 4 ≡ four_of (page_of pages (i / 8192)) (i % 8192)
four-cells pages size i inside fits =
    let n : length (cells_in size pages) ≡ size = length_cells pages size in
    range-four (cells_in size pages) i (rw n inside)
    ∙ (λ t. listed-get size (at_place pages) i Unwritten (omega arith) t ∷ read 1 (omega arith) t ∷ read 2 (omega arith) t ∷ read 3 (omega arith) t ∷ [])
  where
    read : (k : ℕ) → k < 4 → get_or (cells_in size pages) (i + k) Unwritten ≡ get_or (page_of pages (i / 8192)) (i % 8192 + k) Unwritten
    read k l = listed-get size (at_place pages) (i + k) Unwritten (omega arith) ∙ in-page pages i k (omega arith)

pub four-word : (pages : List Sheet) (i : ℕ) (r : Option Word) (page : List Cell) → page ≡ page_of pages (i / 8192) → IfSome r (λ w. i % 8192 % 4 ≡ 0) → IfSome r (λ w. four_of page (i % 8192) ≡ whole_cells w) → (size : ℕ) → i + 4 ≤ size → IfSome r (λ w. range_of (cells_in size pages) i 4 ≡ whole_cells w)
four-word pages i None page at inside is size l = tt
four-word pages i (Some w) page at inside is size l = four-cells pages size i l (omega arith) ∙ (ap (λ (xs : List Cell). four_of xs (i % 8192)) (sym at) ∙ is)

-- four cells of one page are put at once
nil-right : {A : Type 0} (xs : List A) → xs ++ [] ≡ xs
nil-right [] = refl
nil-right (x ∷ xs) = ap (λ ys. x ∷ ys) (nil-right xs)

take-drop : {A : Type 0} (xs : List A) (i : ℕ) → take i xs ++ drop i xs ≡ xs
take-drop [] zero = refl
take-drop [] (suc i) = refl
take-drop (x ∷ xs) zero = refl
take-drop (x ∷ xs) (suc i) = ap (λ ys. x ∷ ys) (take-drop xs i)

none-range : (all : List Cell) (i : ℕ) → with_range all i [] ≡ all
none-range all i =
    let same : i + 0 ≡ i = omega arith in
    ap (λ n. take i all ++ [] ++ drop n all) same ∙ (ap (λ (xs : List Cell). xs ++ drop i all) (nil-right (take i all)) ∙ take-drop all i)

set-twice : {A : Type 0} (xs : List A) (p : ℕ) (a b : A) → set (set xs p a) p b ≡ set xs p b
set-twice [] p a b = refl
set-twice (x ∷ xs) zero a b = refl
set-twice (x ∷ xs) (suc p) a b = ap (λ ys. x ∷ ys) (set-twice xs p a b)

place-after : (pages : List Sheet) (page : List Cell) (i p : ℕ) (c : Cell) → p < length pages → i / 8192 ≡ p → set_place (set_page pages p page) i c ≡ set_page pages p (set page (i % 8192) c)
place-after pages page i p c l is =
    (λ t. set_page (set_page pages p page) (is t) (set (page_of (set_page pages p page) (is t)) (i % 8192) c))
    ∙ (ap (λ (s : Sheet). set (set_page pages p page) p (with_cells s (set s.cells (i % 8192) c))) (sheet-same pages p (with_cells (sheet_of pages p) page) l)
    ∙ set-twice pages p (with_cells (sheet_of pages p) page) (with_cells (sheet_of pages p) (set page (i % 8192) c)))

places-four : (pages : List Sheet) (i : ℕ) (a b c d : Cell) → i / 8192 < length pages → i % 8192 + 4 ≤ 8192 → set_place (set_place (set_place (set_place pages i a) (i + 1) b) (i + 2) c) (i + 3) d ≡ set_page pages (i / 8192) (four_set (page_of pages (i / 8192)) (i % 8192) a b c d)
places-four pages i a b c d l fits =
    let page = page_of pages (i / 8192) in
    let one : (i + 1) % 8192 ≡ i % 8192 + 1 = omega arith in
    let two : (i + 2) % 8192 ≡ i % 8192 + 2 = omega arith in
    let three : (i + 3) % 8192 ≡ i % 8192 + 3 = omega arith in
    let second = place-after pages (set page (i % 8192) a) (i + 1) (i / 8192) b l (omega arith) ∙ ap (λ j. set_page pages (i / 8192) (set (set page (i % 8192) a) j b)) one in
    let third = ap (λ (ps : List Sheet). set_place ps (i + 2) c) second ∙ (place-after pages (set (set page (i % 8192) a) (i % 8192 + 1) b) (i + 2) (i / 8192) c l (omega arith) ∙ ap (λ j. set_page pages (i / 8192) (set (set (set page (i % 8192) a) (i % 8192 + 1) b) j c)) two) in
    ap (λ (ps : List Sheet). set_place ps (i + 3) d) third ∙ (place-after pages (set (set (set page (i % 8192) a) (i % 8192 + 1) b) (i % 8192 + 2) c) (i + 3) (i / 8192) d l (omega arith) ∙ ap (λ j. set_page pages (i / 8192) (set (set (set (set page (i % 8192) a) (i % 8192 + 1) b) (i % 8192 + 2) c) j d)) three)

pub four-written : (pages : List Sheet) (i : ℕ) (a b c d : Cell) → i + 4 ≤ 8192 * length pages → IsTaken pages (i / 8192) → i % 8192 + 4 ≤ 8192 → Rewritten pages (set_page pages (i / 8192) (four_set (page_of pages (i / 8192)) (i % 8192) a b c d)) (i + 4) i (λ all. a ∷ b ∷ c ∷ d ∷ [])
four-written pages i a b c d inside taken fits =
    let row : List Cell = a ∷ b ∷ c ∷ d ∷ [] in
    let there : AreTaken pages i 4 = (λ j low high. subst (IsTaken pages) (omega arith) taken) in
    let none : Rewritten pages pages (i + 4) i (λ all. take 0 row) = rewritten-none pages (i + 4) i (λ all. take 0 row) (λ all l. none-range all i) in
    let one = row-step pages pages i 0 row a inside there (omega arith) refl none in
    let two = row-step pages (set_place pages (i + 0) a) i 1 row b inside there (omega arith) refl one in
    let three = row-step pages (set_place (set_place pages (i + 0) a) (i + 1) b) i 2 row c inside there (omega arith) refl two in
    let four = row-step pages (set_place (set_place (set_place pages (i + 0) a) (i + 1) b) (i + 2) c) i 3 row d inside there (omega arith) refl three in
    let same : set_place (set_place (set_place (set_place pages (i + 0) a) (i + 1) b) (i + 2) c) (i + 3) d ≡ set_page pages (i / 8192) (four_set (page_of pages (i / 8192)) (i % 8192) a b c d) = ap (λ n. set_place (set_place (set_place (set_place pages n a) (i + 1) b) (i + 2) c) (i + 3) d) (omega arith) ∙ places-four pages i a b c d (omega arith) fits in
    subst (λ (ps : List Sheet). Rewritten pages ps (i + 4) i (λ all. row)) same four

pub word-written : (pages : List Sheet) (i : ℕ) (w : Word) → i + 4 ≤ 8192 * length pages → IsTaken pages (i / 8192) → i % 4 ≡ 0 → Rewritten pages (set_page pages (i / 8192) (four_in (page_of pages (i / 8192)) (i % 8192) (whole_cells w))) (i + 4) i (λ all. whole_cells w)
word-written pages i w inside taken aligned = by (w.tag == 0)
  where
    fits : i % 8192 + 4 ≤ 8192
    fits = omega arith

    number : List Cell
    number = Byte (w.bits % 256) ∷ Byte (w.bits / 256 % 256) ∷ Byte (w.bits / 65536 % 256) ∷ Byte (w.bits / 16777216 % 256) ∷ []

    pointer : List Cell
    pointer = Frag w.bits w.tag 0 ∷ Frag w.bits w.tag 1 ∷ Frag w.bits w.tag 2 ∷ Frag w.bits w.tag 3 ∷ []

    by : (b : Bool) → Rewritten pages (set_page pages (i / 8192) (four_in (page_of pages (i / 8192)) (i % 8192) (cond b number pointer))) (i + 4) i (λ all. cond b number pointer)
    by true = four-written pages i (Byte (w.bits % 256)) (Byte (w.bits / 256 % 256)) (Byte (w.bits / 65536 % 256)) (Byte (w.bits / 16777216 % 256)) inside taken fits
    by false = four-written pages i (Frag w.bits w.tag 0) (Frag w.bits w.tag 1) (Frag w.bits w.tag 2) (Frag w.bits w.tag 3) inside taken fits

-- a page with one or two other cells, and perhaps more room
as-set : (pages : List Sheet) (p : ℕ) (s : Sheet) (n : ℕ) → p < length pages → cells_in n (set pages p s) ≡ cells_in n (set_page pages p s.cells)
as-set pages p s n l = listed-same n (at_place (set_page pages p s.cells)) (at_place (set pages p s)) (λ i. ap (λ (xs : List Cell). get_or xs (i % 8192) Unwritten) (by (i / 8192) (i / 8192 == p) refl))
  where
    by : (q : ℕ) (b : Bool) → (q == p) ≡ b → page_of (set pages p s) q ≡ page_of (set_page pages p s.cells) q
    by q true e =
        let is = eq-true q p e in
        ap (λ n. page_of (set pages p s) n) is
        ∙ (ap (λ (u : Sheet). u.cells) (sheet-same pages p s l) ∙ (sym (page-same pages p s.cells l) ∙ ap (λ n. page_of (set_page pages p s.cells) n) (sym is)))
    by q false e = let ne = eq-false q p e in ap (λ (u : Sheet). u.cells) (sheet-other pages p q s ne) ∙ sym (page-other pages p q s.cells ne)

paged-set : (pages : List Sheet) (p : ℕ) (s : Sheet) (size : ℕ) → p < length pages → length s.cells ≡ length (page_of pages p) → IsPaged pages size → IsPaged (set pages p s) size
paged-set pages p s size l same paged = record {
  small = paged.small;
  enough = rw (length-set pages p s) paged.enough;
  whole = λ q. by q (q == p) refl (paged.whole q);
}
  where
    by : (q : ℕ) (b : Bool) → (q == p) ≡ b → (length (page_of pages q) ≡ 0) ⊎ IsTaken pages q → (length (page_of (set pages p s) q) ≡ 0) ⊎ IsTaken (set pages p s) q
    by q true e whole =
        let is = eq-true q p e in
        let count : length (page_of (set pages p s) q) ≡ length (page_of pages q) = ap (λ n. length (page_of (set pages p s) n)) is ∙ (ap (λ (u : Sheet). length u.cells) (sheet-same pages p s l) ∙ (same ∙ ap (λ n. length (page_of pages n)) (sym is))) in
        elim whole [ inl none ↦ inl (count ∙ none) | inr taken ↦ inr (count ∙ taken) ]
    by q false e whole =
        let count : length (page_of (set pages p s) q) ≡ length (page_of pages q) = ap (λ (u : Sheet). length u.cells) (sheet-other pages p q s (eq-false q p e)) in
        elim whole [ inl none ↦ inl (count ∙ none) | inr taken ↦ inr (count ∙ taken) ]

-- some cells of one page are put where its page was taken just before
pub record Put (old new : List Sheet) (i : ℕ) (row : List Cell) : Type 0 where
  pub paged : (size : ℕ) → IsPaged old size → IsPaged new size
  pub cells : (size : ℕ) → i + length row ≤ size → cells_in size new ≡ with_range (cells_in size old) i row

put-in : (old : List Sheet) (i : ℕ) (s : Sheet) (row xs : List Cell) → i / 8192 < length old → length xs ≡ length (page_of old (i / 8192)) → s.cells ≡ xs → Rewritten old (set_page old (i / 8192) xs) (i + length row) i (λ all. row) → Put old (set old (i / 8192) s) i row
put-in old i s row xs l count is law = record {
  paged = λ size before. paged-set old (i / 8192) s size l (ap length is ∙ count) before;
  cells = λ size h. as-set old (i / 8192) s size l ∙ (ap (λ (ys : List Cell). cells_in size (set_page old (i / 8192) ys)) is ∙ law.cells size h);
}

pub put-one : (old : List Sheet) (i : ℕ) (s : Sheet) (c : Cell) → i + 1 ≤ 8192 * length old → IsTaken old (i / 8192) → s.cells ≡ set (page_of old (i / 8192)) (i % 8192) c → Put old (set old (i / 8192) s) i (c ∷ [])
put-one old i s c inside taken is =
    let row : List Cell = c ∷ [] in
    let there : AreTaken old i 1 = (λ j low high. subst (IsTaken old) (omega arith) taken) in
    let none : Rewritten old old (i + 1) i (λ all. take 0 row) = rewritten-none old (i + 1) i (λ all. take 0 row) (λ all l. none-range all i) in
    let one = row-step old old i 0 row c inside there (omega arith) refl none in
    let same : set_place old (i + 0) c ≡ set_place old i c = ap (λ n. set_place old n c) (omega arith) in
    put-in old i s row (set (page_of old (i / 8192)) (i % 8192) c) (omega arith) (length-set (page_of old (i / 8192)) (i % 8192) c) is (subst (λ (ps : List Sheet). Rewritten old ps (i + 1) i (λ all. row)) same one)

pub put-two : (old : List Sheet) (i : ℕ) (s : Sheet) (a b : Cell) → i + 2 ≤ 8192 * length old → IsTaken old (i / 8192) → i % 4 < 3 → s.cells ≡ set (set (page_of old (i / 8192)) (i % 8192) a) (i % 8192 + 1) b → Put old (set old (i / 8192) s) i (a ∷ b ∷ [])
put-two old i s a b inside taken near is =
    let row : List Cell = a ∷ b ∷ [] in
    let page : List Cell = page_of old (i / 8192) in
    let there : AreTaken old i 2 = (λ j low high. subst (IsTaken old) (omega arith) taken) in
    let none : Rewritten old old (i + 2) i (λ all. take 0 row) = rewritten-none old (i + 2) i (λ all. take 0 row) (λ all l. none-range all i) in
    let one = row-step old old i 0 row a inside there (omega arith) refl none in
    let two = row-step old (set_place old (i + 0) a) i 1 row b inside there (omega arith) refl one in
    let next : (i + 1) % 8192 ≡ i % 8192 + 1 = omega arith in
    let same : set_place (set_place old (i + 0) a) (i + 1) b ≡ set_page old (i / 8192) (set (set page (i % 8192) a) (i % 8192 + 1) b) =
    ap (λ n. set_place (set_place old n a) (i + 1) b) (omega arith)
    ∙ (place-after old (set page (i % 8192) a) (i + 1) (i / 8192) b (omega arith) (omega arith) ∙ ap (λ j. set_page old (i / 8192) (set (set page (i % 8192) a) j b)) next) in
    put-in old i s row (set (set page (i % 8192) a) (i % 8192 + 1) b) (omega arith) (length-set (set page (i % 8192) a) (i % 8192 + 1) b ∙ length-set page (i % 8192) a) is (subst (λ (ps : List Sheet). Rewritten old ps (i + 2) i (λ all. row)) same two)

-- the same, where the page was taken just before
pub put-grown : (old now new : List Sheet) (i : ℕ) (row : List Cell) → Grows old now → Put now new i row → Put old new i row
put-grown old now new i row grows put = record {
  paged = λ size before. put.paged size (paged-grown old now size before grows);
  cells = λ size h. put.cells size h ∙ ap (λ (all : List Cell). with_range all i row) (cells-grown size old now grows);
}

-- a page is taken, and room in it or not
stays : (pages : List Sheet) (p : ℕ) (s : Sheet) → p < length pages → s ≡ sheet_of pages p → Grows pages (set pages p s)
stays pages p s l same = grows-set pages p s l (ap (λ (u : Sheet). u.cells) same) (inl (ap (λ (u : Sheet). u.room) same))

grown-to : (old now : List Sheet) (p : ℕ) → p < length old → now ≡ with_page old p → Grows old now
grown-to old now p l is = subst (Grows old) (sym is) (grows-page old p l)

taken-to : (old now : List Sheet) (p : ℕ) → p < length old → (length (page_of old p) ≡ 0) ⊎ IsTaken old p → now ≡ with_page old p → IsTaken now p
taken-to old now p l whole is = subst (λ (ps : List Sheet). IsTaken ps p) (sym is) (taken-page old p l whole)

pub inside_taken : (old now : List Sheet) (p q : ℕ) → p < length old → now ≡ with_page old p → q < length old → q < length now
inside_taken old now p q l is h = let grows = grown-to old now p l is in rw grows.count h

pub room_grows : (old now : List Sheet) (p : ℕ) (s : Sheet) (r : Result ⊤ NoMemory) → p < length old → now ≡ with_page old p → MatchResult r (λ _. (s.cells ≡ page_of now p) × (s.room ≡ length (page_of now p))) (λ _. s ≡ sheet_of now p) → Grows old (set now p s)
room_grows old now p s (Ok x) l is made =
    let grows = grown-to old now p l is in
    grows-then old now (set now p s) grows (grows-set now p s (rw grows.count l) made.0 (inr made.1))
room_grows old now p s (Err e) l is made =
    let grows = grown-to old now p l is in
    grows-then old now (set now p s) grows (stays now p s (rw grows.count l) made)

pub room_made : (old now : List Sheet) (p : ℕ) (s : Sheet) (r : Result ⊤ NoMemory) → p < length old → (length (page_of old p) ≡ 0) ⊎ IsTaken old p → now ≡ with_page old p → MatchResult r (λ _. (s.cells ≡ page_of now p) × (s.room ≡ length (page_of now p))) (λ _. s ≡ sheet_of now p) → OnOk r (IsRoomy (set now p s) p)
room_made old now p s (Ok x) l whole is made =
    let grows = grown-to old now p l is in
    roomy-set now p s (rw grows.count l) (taken-to old now p l whole is) made.0 made.1
room_made old now p s (Err e) l whole is made = tt

-- some cells were put, or all stayed as they were
abbrev pub IsPaged-still : List Sheet → List Sheet → Type 0
IsPaged-still old new = (size : ℕ) → IsPaged old size → IsPaged new size

abbrev pub PutOrKept : List Sheet → List Sheet → ℕ → List Cell → Result ⊤ NoMemory → Type 0
PutOrKept old new at row r = (size : ℕ) → at + length row ≤ size → MatchResult r (λ _. cells_in size new ≡ with_range (cells_in size old) at row) (λ _. cells_in size new ≡ cells_in size old)

pub one_written : (old now : List Sheet) (at : ℕ) (c : Cell) (s : Sheet) (r : Result ⊤ NoMemory) → at + 1 ≤ 8192 * length old → (length (page_of old (at / 8192)) ≡ 0) ⊎ IsTaken old (at / 8192) → now ≡ with_page old (at / 8192) → MatchResult r (λ _. s.cells ≡ set (page_of now (at / 8192)) (at % 8192) c) (λ _. s ≡ sheet_of now (at / 8192)) → IsPaged-still old (set now (at / 8192) s) × PutOrKept old (set now (at / 8192) s) at (c ∷ []) r
one_written old now at c s (Ok x) inside whole is made =
    let grows = grown-to old now (at / 8192) (omega arith) is in
    let put = put-grown old now (set now (at / 8192) s) at (c ∷ []) grows (put-one now at s c (rw grows.count inside) (taken-to old now (at / 8192) (omega arith) whole is) made) in
    (put.paged, put.cells)
one_written old now at c s (Err e) inside whole is made =
    let grows = grown-to old now (at / 8192) (omega arith) is in
    let all = grows-then old now (set now (at / 8192) s) grows (stays now (at / 8192) s (rw grows.count (omega arith)) made) in
    ((λ size before. paged-grown old (set now (at / 8192) s) size before all), (λ size l. cells-grown size old (set now (at / 8192) s) all))

pub two_written : (old now : List Sheet) (at : ℕ) (a b : Cell) (s : Sheet) (r : Result ⊤ NoMemory) → at + 2 ≤ 8192 * length old → at % 4 < 3 → (length (page_of old (at / 8192)) ≡ 0) ⊎ IsTaken old (at / 8192) → now ≡ with_page old (at / 8192) → MatchResult r (λ _. s.cells ≡ set (set (page_of now (at / 8192)) (at % 8192) a) (at % 8192 + 1) b) (λ _. s ≡ sheet_of now (at / 8192)) → IsPaged-still old (set now (at / 8192) s) × PutOrKept old (set now (at / 8192) s) at (a ∷ b ∷ []) r
two_written old now at a b s (Ok x) inside near whole is made =
    let grows = grown-to old now (at / 8192) (omega arith) is in
    let put = put-grown old now (set now (at / 8192) s) at (a ∷ b ∷ []) grows (put-two now at s a b (rw grows.count inside) (taken-to old now (at / 8192) (omega arith) whole is) near made) in
    (put.paged, put.cells)
two_written old now at a b s (Err e) inside near whole is made =
    let grows = grown-to old now (at / 8192) (omega arith) is in
    let all = grows-then old now (set now (at / 8192) s) grows (stays now (at / 8192) s (rw grows.count (omega arith)) made) in
    ((λ size before. paged-grown old (set now (at / 8192) s) size before all), (λ size l. cells-grown size old (set now (at / 8192) s) all))

pub word_cells : (old now new : List Sheet) (at : ℕ) (w : Word) → at + 4 ≤ 8192 * length old → at % 4 ≡ 0 → (length (page_of old (at / 8192)) ≡ 0) ⊎ IsTaken old (at / 8192) → now ≡ with_page old (at / 8192) → new ≡ set_page now (at / 8192) (four_in (page_of now (at / 8192)) (at % 8192) (whole_cells w)) → (size : ℕ) → at + 4 ≤ size → cells_in size new ≡ with_range (cells_in size old) at (whole_cells w)
word_cells old now new at w inside aligned whole is made = λ size h.
    let grows = grown-to old now (at / 8192) (omega arith) is in
    ap (cells_in size) made
    ∙ ((word-written now at w (rw grows.count inside) (taken-to old now (at / 8192) (omega arith) whole is) aligned).cells size h
    ∙ ap (λ (all : List Cell). with_range all at (whole_cells w)) (cells-grown size old now grows))

pub one_range : (all : List Cell) (i : ℕ) (c : Cell) → i < length all → with_range all i (c ∷ []) ≡ set all i c
one_range all i c l =
    let at : i + 0 ≡ i = omega arith in
    sym (ap (λ (xs : List Cell). set xs i c) (sym (none-range all i)) ∙ (ap (λ j. set (with_range all i []) j c) (sym at) ∙ with_range-push all i [] c (rw at l)))

pub one_row : (row : List Cell) → length row ≡ 1 → get_or row 0 Unwritten ∷ [] ≡ row
one_row [] h = absurd (omega arith)
one_row (a ∷ []) h = refl
one_row (a ∷ b ∷ rest) h = absurd (omega arith)

pub two_row : (row : List Cell) → length row ≡ 2 → get_or row 0 Unwritten ∷ get_or row 1 Unwritten ∷ [] ≡ row
two_row [] h = absurd (omega arith)
two_row (a ∷ []) h = absurd (omega arith)
two_row (a ∷ b ∷ []) h = refl
two_row (a ∷ b ∷ c ∷ rest) h = absurd (omega arith)

-- one cell of a page that was taken becomes unwritten, or four at once, or as many as a page has that was not taken
wipe-one : (first now : List Sheet) (at n k : ℕ) → k < n → at + n ≤ 8192 * length now → IsTaken now ((at + k) / 8192) → Rewritten first now (at + n) at (λ all. replicate k Unwritten) → Rewritten first (set_place now (at + k) Unwritten) (at + n) at (λ all. replicate (k + 1) Unwritten)
wipe-one first now at n k l fits taken so = wipe-step first now (set_place now (at + k) Unwritten) at n k l (shape-set now (at + k) Unwritten (omega arith)) (λ size h. cells-set size now (at + k) Unwritten h (omega arith) taken) so

wipe-four : (first now : List Sheet) (at n k : ℕ) → k + 4 ≤ n → at + n ≤ 8192 * length now → IsTaken now ((at + k) / 8192) → (at + k) % 4 ≡ 0 → Rewritten first now (at + n) at (λ all. replicate k Unwritten) → Rewritten first (set_page now ((at + k) / 8192) (four_set (page_of now ((at + k) / 8192)) ((at + k) % 8192) Unwritten Unwritten Unwritten Unwritten)) (at + n) at (λ all. replicate (k + 4) Unwritten)
wipe-four first now at n k l fits taken aligned so =
    let a : List Sheet = set_place now (at + k) Unwritten in
    let b : List Sheet = set_place a (at + (k + 1)) Unwritten in
    let c : List Sheet = set_place b (at + (k + 1 + 1)) Unwritten in
    let d : List Sheet = set_place c (at + (k + 1 + 1 + 1)) Unwritten in
    let a-shape = shape-set now (at + k) Unwritten (omega arith) in
    let a-fits : at + n ≤ 8192 * length a = rw a-shape.count fits in
    let b-shape = shape-set a (at + (k + 1)) Unwritten (omega arith) in
    let b-fits : at + n ≤ 8192 * length b = rw b-shape.count a-fits in
    let c-shape = shape-set b (at + (k + 1 + 1)) Unwritten (omega arith) in
    let c-fits : at + n ≤ 8192 * length c = rw c-shape.count b-fits in
    let p = (at + k) / 8192 in
    let a-taken : IsTaken a p = a-shape.sizes p ∙ taken in
    let b-taken : IsTaken b p = b-shape.sizes p ∙ a-taken in
    let c-taken : IsTaken c p = c-shape.sizes p ∙ b-taken in
    let one = wipe-one first now at n k (omega arith) fits taken so in
    let two = wipe-one first a at n (k + 1) (omega arith) a-fits (subst (IsTaken a) (omega arith) a-taken) one in
    let three = wipe-one first b at n (k + 1 + 1) (omega arith) b-fits (subst (IsTaken b) (omega arith) b-taken) two in
    let four = wipe-one first c at n (k + 1 + 1 + 1) (omega arith) c-fits (subst (IsTaken c) (omega arith) c-taken) three in
    let second : at + (k + 1) ≡ at + k + 1 = omega arith in
    let third : at + (k + 1 + 1) ≡ at + k + 2 = omega arith in
    let last : at + (k + 1 + 1 + 1) ≡ at + k + 3 = omega arith in
    let same : d ≡ set_page now p (four_set (page_of now p) ((at + k) % 8192) Unwritten Unwritten Unwritten Unwritten) =
    (λ t. set_place (set_place (set_place a (second t) Unwritten) (third t) Unwritten) (last t) Unwritten)
    ∙ places-four now (at + k) Unwritten Unwritten Unwritten Unwritten (omega arith) (omega arith) in
    let count : k + 1 + 1 + 1 + 1 ≡ k + 4 = omega arith in
    subst (λ (ps : List Sheet). Rewritten first ps (at + n) at (λ all. replicate (k + 4) Unwritten)) same
    (subst (λ m. Rewritten first d (at + n) at (λ all. replicate m Unwritten)) count four)

pub wipe_untaken : (first now : List Sheet) (at n k m : ℕ) → k + m ≤ n → (at + k) % 8192 + m ≤ 8192 → length (page_of now ((at + k) / 8192)) ≡ 0 → Rewritten first now (at + n) at (λ all. replicate k Unwritten) → Rewritten first now (at + n) at (λ all. replicate (k + m) Unwritten)
wipe_untaken first now at n k zero l fits none so = subst (λ j. Rewritten first now (at + n) at (λ all. replicate j Unwritten)) (omega arith) so
wipe_untaken first now at n k (suc m) l fits none so =
    let before = wipe_untaken first now at n k m (omega arith) (omega arith) none so in
    let page : (at + k) / 8192 ≡ (at + (k + m)) / 8192 = omega arith in
    let here : length (page_of now ((at + (k + m)) / 8192)) ≡ 0 = subst (λ p. length (page_of now p) ≡ 0) page none in
    let count : k + m + 1 ≡ k + suc m = omega arith in
    subst (λ j. Rewritten first now (at + n) at (λ all. replicate j Unwritten)) count
    (wipe-step first now now at n (k + m) (omega arith) (shape-none now) (λ size h. wiped-none now (at + (k + m)) size here h) before)

pub wipe_taken : (first now : List Sheet) (at n k : ℕ) (s u : Sheet) → k < n → at + n ≤ 8192 * length now → (length (page_of now ((at + k) / 8192)) ≡ 0) ⊎ IsTaken now ((at + k) / 8192) → length (page_of now ((at + k) / 8192)) ≢ 0 → u ≡ get_or now ((at + k) / 8192) u → s ≡ with_cells u (set u.cells ((at + k) % 8192) Unwritten) → Rewritten first now (at + n) at (λ all. replicate k Unwritten) → Rewritten first (set now ((at + k) / 8192) s) (at + n) at (λ all. replicate (k + 1) Unwritten)
wipe_taken first now at n k s u l fits whole some is made so =
    let p = (at + k) / 8192 in
    let here = any-default now p u untaken is (omega arith) in
    let taken : IsTaken now p = elim whole [ inl none ↦ absurd (some none) | inr there ↦ there ] in
    subst (λ (ps : List Sheet). Rewritten first ps (at + n) at (λ all. replicate (k + 1) Unwritten))
    (sym (ap (set now p) (made ∙ ap (λ (v : Sheet). with_cells v (set v.cells ((at + k) % 8192) Unwritten)) here)))
    (wipe-one first now at n k l fits taken so)

pub wipe_four : (first now : List Sheet) (at n k : ℕ) (s u : Sheet) → k + 4 ≤ n → at + n ≤ 8192 * length now → (at + k) % 4 ≡ 0 → (length (page_of now ((at + k) / 8192)) ≡ 0) ⊎ IsTaken now ((at + k) / 8192) → length (page_of now ((at + k) / 8192)) ≢ 0 → u ≡ get_or now ((at + k) / 8192) u → s ≡ with_cells u (four_set u.cells ((at + k) % 8192) Unwritten Unwritten Unwritten Unwritten) → Rewritten first now (at + n) at (λ all. replicate k Unwritten) → Rewritten first (set now ((at + k) / 8192) s) (at + n) at (λ all. replicate (k + 4) Unwritten)
wipe_four first now at n k s u l fits aligned whole some is made so =
    let p = (at + k) / 8192 in
    let here = any-default now p u untaken is (omega arith) in
    let taken : IsTaken now p = elim whole [ inl none ↦ absurd (some none) | inr there ↦ there ] in
    subst (λ (ps : List Sheet). Rewritten first ps (at + n) at (λ all. replicate (k + 4) Unwritten))
    (sym (ap (set now p) (made ∙ ap (λ (v : Sheet). with_cells v (four_set v.cells ((at + k) % 8192) Unwritten Unwritten Unwritten Unwritten)) here)))
    (wipe-four first now at n k l fits taken aligned so)
