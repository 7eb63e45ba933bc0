-- Inside: plumbing, a representation, an invariant or a promise beside the claim (docs/TRUST.md).
-- Cells in pages of 8,192, of which those that were not taken have none.
use Rattle.std.specs.Prelude.{◌≡◌, ◌≢◌, ◌⊎◌, ℕ, zero, suc, ◌+◌, ◌*◌, ◌/◌, ◌%◌, ◌^◌, ◌==◌, ◌<◌, ◌≤◌, Bool, true, false, if◌then◌else◌, List, [], ◌∷◌, length, replicate, slice_index_or, slice_set}
use Rattle.sc_base.specs.declared.memory.Cell.{Cell}
use Rattle.sc_base.specs.declared.memory.Cell.TheVariants.{Unwritten, Byte, Frag}
use Rattle.sc_base.specs.declared.memory.Word.{Word}
use Rattle.sc_cells.specs.declared.page.Quad.{Quad}
use Rattle.sc_cells.specs.declared.page.Quad.TheVariants.{Whole, Part, Mixed}
use Rattle.sc_cells.specs.Range.{with_range}

-- a page: its cells, none where it was not taken, and how many of them have room in a list of their own: none or all
pub record Sheet : Type 0 where
  pub cells : List Cell
  pub room : ℕ

abbrev pub untaken : Sheet
untaken = record { cells = []; room = 0 }

abbrev pub blank : Sheet
blank = record { cells = replicate 8192 Unwritten; room = 0 }

abbrev pub sheet_of : List Sheet → ℕ → Sheet
sheet_of pages p = slice_index_or pages p untaken

-- the cells of a page, none where it was not taken
abbrev pub page_of : List Sheet → ℕ → List Cell
page_of pages p = (sheet_of pages p).cells

abbrev pub with_cells : Sheet → List Cell → Sheet
with_cells page cells = record { cells = cells; room = page.room }

-- the pages with other cells in one of them
abbrev pub set_page : List Sheet → ℕ → List Cell → List Sheet
set_page pages p cells = slice_set pages p (with_cells (sheet_of pages p) cells)

abbrev pub IsTaken : List Sheet → ℕ → Type 0
IsTaken pages p = length (page_of pages p) ≡ 8192

-- a page that was taken, in which each cell has room whatever it is
abbrev pub IsRoomy : List Sheet → ℕ → Type 0
IsRoomy pages p = IsTaken pages p × ((sheet_of pages p).room ≡ length (page_of pages p))

-- the cell at a place of all
abbrev pub at_place : List Sheet → ℕ → Cell
at_place pages i = slice_index_or (page_of pages (i / 8192)) (i % 8192) Unwritten

abbrev pub set_place : List Sheet → ℕ → Cell → List Sheet
set_place pages i c = set_page pages (i / 8192) (slice_set (page_of pages (i / 8192)) (i % 8192) c)

-- the pages with one of them taken
abbrev pub with_page : List Sheet → ℕ → List Sheet
with_page pages p = if length (page_of pages p) == 0 then slice_set pages p blank else pages

-- there are pages for all cells, each of them whole or not taken
pub record IsPaged (pages : List Sheet) (size : ℕ) : Type 0 where
  pub small : size < 2 ^ 32
  pub enough : size ≤ 8192 * length pages
  pub whole : (p : ℕ) → (length (page_of pages p) ≡ 0) ⊎ IsTaken pages p

-- as many pages, the same ones taken, and as much room in each
pub record SameShape (old new : List Sheet) : Type 0 where
  pub count : length new ≡ length old
  pub sizes : (p : ℕ) → length (page_of new p) ≡ length (page_of old p)
  pub rooms : (p : ℕ) → (sheet_of new p).room ≡ (sheet_of old p).room

-- the same cells, and perhaps more pages taken, and more room
pub record Grows (old new : List Sheet) : Type 0 where
  pub count : length new ≡ length old
  pub sizes : (p : ℕ) → (length (page_of new p) ≡ length (page_of old p)) ⊎ IsTaken new p
  pub rooms : (p : ℕ) → IsRoomy old p → IsRoomy new p
  pub same : (i : ℕ) → at_place new i ≡ at_place old i

-- the pages of n cells from a place on are there, and have room for them
abbrev pub AreRoomy : List Sheet → ℕ → ℕ → Type 0
AreRoomy pages at n = (i : ℕ) → at ≤ i → i < at + n → IsRoomy pages (i / 8192)

-- what a function has for the first n numbers
abbrev pub listed : {A : Type 0} → ℕ → (ℕ → A) → List A
listed zero f = []
listed (suc n) f = f zero ∷ listed n (λ i. f (suc i))

-- all cells
abbrev pub cells_in : ℕ → List Sheet → List Cell
cells_in size pages = listed size (at_place pages)

-- some cells from a place on were replaced by what a function of all has for them, and no page was taken
pub record Rewritten (old new : List Sheet) (most at : ℕ) (part : List Cell → List Cell) : Type 0 where
  pub shape : SameShape old new
  pub cells : (size : ℕ) → most ≤ size → cells_in size new ≡ with_range (cells_in size old) at (part (cells_in size old))

-- the cells of a whole word: the bytes of a number, the lowest first, and the pieces of a pointer in their order
abbrev pub whole_cells : Word → List Cell
whole_cells w =
    if w.tag == 0 then Byte (w.bits % 256) ∷ Byte (w.bits / 256 % 256) ∷ Byte (w.bits / 65536 % 256) ∷ Byte (w.bits / 16777216 % 256) ∷ []
    else Frag w.bits w.tag 0 ∷ Frag w.bits w.tag 1 ∷ Frag w.bits w.tag 2 ∷ Frag w.bits w.tag 3 ∷ []

-- four cells of a page
abbrev pub four_of : List Cell → ℕ → List Cell
four_of page j = slice_index_or page j Unwritten ∷ slice_index_or page (j + 1) Unwritten ∷ slice_index_or page (j + 2) Unwritten ∷ slice_index_or page (j + 3) Unwritten ∷ []

-- a page with four other cells
abbrev pub four_set : List Cell → ℕ → Cell → Cell → Cell → Cell → List Cell
four_set page j a b c d = slice_set (slice_set (slice_set (slice_set page j a) (j + 1) b) (j + 2) c) (j + 3) d

-- a page with a list of four other cells
abbrev pub four_in : List Cell → ℕ → List Cell → List Cell
four_in page j (a ∷ b ∷ c ∷ d ∷ []) = four_set page j a b c d
four_in page j _ = page

-- the cell at place k of a word, or an unwritten one
abbrev pub cell_if : Bool → Word → ℕ → Cell
cell_if written w k = if written then slice_index_or (whole_cells w) k Unwritten else Unwritten

-- the cell at place k of four, which stand as a quad has them, or as they are
abbrev pub found : Quad → ℕ → Cell → Cell
found (Whole w) k loose = slice_index_or (whole_cells w) k Unwritten
found (Part w written) k loose = cell_if (slice_index_or written k false) w k
found Mixed k loose = loose

-- four cells stand as a quad has them
abbrev pub StandsFor : List Cell → Quad → Type 0
StandsFor four quad = (k : ℕ) (loose : Cell) → k < 4 → found quad k loose ≡ slice_index_or four k Unwritten

-- four cells with another one at place k
pub record IsPutIn (old : Quad) (k : ℕ) (c : Cell) (new : Quad) : Type 0 where
  pub here : (loose : Cell) → found new k loose ≡ c
  pub others : (i : ℕ) (loose : Cell) → i ≢ k → i < 4 → found new i loose ≡ found old i loose

-- four cells of which that at place k is unwritten
abbrev pub wiped : Quad → ℕ → Quad
wiped (Whole w) k = Part w (slice_set (true ∷ true ∷ true ∷ true ∷ []) k false)
wiped (Part w written) k = Part w (slice_set written k false)
wiped Mixed k = Mixed

-- the cell at a place of a page, each four cells of which stand as a quad or as they are
abbrev pub cell_of : List Quad → List Cell → ℕ → Cell
cell_of quads loose i = found (slice_index_or quads (i / 4) Mixed) (i % 4) (slice_index_or loose i Unwritten)

abbrev pub sheet : List Quad → List Cell → Sheet
sheet quads loose = record { cells = listed (4 * length quads) (cell_of quads loose); room = length loose }

-- the second list has all cells or none
pub record IsPage (quads : List Quad) (loose : List Cell) : Type 0 where
  pub few : length quads ≤ 2048
  pub room : (length loose ≡ 0) ⊎ (length loose ≡ 4 * length quads)
