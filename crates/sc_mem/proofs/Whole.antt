-- Whole words as their four cells.
use Rattle.std.proofs.Common.{◌≡◌, ℕ, ◌+◌, ◌*◌, ◌/◌, ◌%◌, ◌^◌, ◌<◌, ◌==◌, ◌&&◌, Bool, true, false, cond, List, [], ◌∷◌, refl, sym, ap, ◌∙◌, arith}
use Rattle.std.proofs.lemmas.Bool.Decides.{nat_tests}
use Rattle.sc_base.specs.declared.memory.Cell.{Cell}
use Rattle.sc_base.specs.declared.memory.Cell.TheVariants.{Byte, Frag}
use Rattle.sc_base.specs.declared.memory.Word.{Word}
use Rattle.sc_cells.specs.Pages.{whole_cells}
use Rattle.sc_mem.specs.Words.{bytes_of, cells_of, is_piece, number_of, tag_of, word_of}

same : (n : ℕ) → (n == n) ≡ true
same n = grind (arith, nat_tests)

none : (n : ℕ) → (n == 0) ≡ true → n ≡ 0
none n h = grind (arith, nat_tests)

abbrev four_bytes : ℕ → List Cell
four_bytes n = Byte (n % 256) ∷ Byte (n / 256 % 256) ∷ Byte (n / 65536 % 256) ∷ Byte (n / 16777216 % 256) ∷ []

abbrev four_pieces : ℕ → ℕ → List Cell
four_pieces bits tag = Frag bits tag 0 ∷ Frag bits tag 1 ∷ Frag bits tag 2 ∷ Frag bits tag 3 ∷ []

number-is : (n : ℕ) → n < 2 ^ 32 → n ≡ n % 256 + 256 * (n / 256 % 256 + 256 * (n / 65536 % 256 + 256 * (n / 16777216 % 256 + 256 * 0)))
number-is n h = omega arith

all-three : (a b c : Bool) → a ≡ true → b ≡ true → c ≡ true → (a && b && c) ≡ true
all-three a b c x y z = rw (x, y, z) refl

piece-is : (bits tag k : ℕ) → is_piece bits tag k (Frag bits tag k) ≡ true
piece-is bits tag k = all-three (bits == bits) (tag == tag) (k == k) (same bits) (same tag) (same k)

chosen : (a b c d : Bool) (t : ℕ) → a ≡ true → b ≡ true → c ≡ true → d ≡ true → cond (a && b && c && d) t 0 ≡ t
chosen a b c d t x y z w = rw (x, y, z, w) refl

tag-is : (bits tag : ℕ) → tag_of (four_pieces bits tag) ≡ tag
tag-is bits tag =
    chosen (0 == 0) (is_piece bits tag 1 (Frag bits tag 1)) (is_piece bits tag 2 (Frag bits tag 2)) (is_piece bits tag 3 (Frag bits tag 3)) tag refl
    (piece-is bits tag 1) (piece-is bits tag 2) (piece-is bits tag 3)

pub whole-read : (cells : List Cell) (w : Word) → w.bits < 2 ^ 32 → cells ≡ whole_cells w → w ≡ word_of cells
whole-read cells w small is = by (w.tag == 0) refl ∙ ap word_of (sym is)
  where
    by : (b : Bool) → (w.tag == 0) ≡ b → w ≡ word_of (cond b (four_bytes w.bits) (four_pieces w.bits w.tag))
    by true e = λ i. record { bits = number-is w.bits small i; tag = none w.tag e i }
    by false e = λ i. record { bits = number-is w.bits small i; tag = sym (tag-is w.bits w.tag) i }

pub whole-cells : (w : Word) → whole_cells w ≡ cells_of 4 w
whole-cells w = by (w.tag == 0)
  where
    by : (b : Bool) → cond b (four_bytes w.bits) (four_pieces w.bits w.tag) ≡ cond (cond b false true) (four_pieces w.bits w.tag) (four_bytes w.bits)
    by true = refl
    by false = refl
