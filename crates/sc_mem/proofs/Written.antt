-- Words that stand whole in their cells.
use Rattle.std.proofs.Common.{◌≡◌, ◌≢◌, inl, inr, ℕ, ◌+◌, ◌*◌, ◌/◌, ◌%◌, ◌^◌, ◌<◌, ◌==◌, Bool, true, false, cond, List, [], ◌∷◌, Option, Some, None, refl, sym, ap, subst, ◌∙◌, arith}
use Rattle.std.specs.Option.{IsSome}
use Rattle.std.proofs.lemmas.Bool.Decides.{nat_tests}
use Rattle.sc_base.specs.declared.memory.Cell.{Cell}
use Rattle.sc_base.specs.declared.memory.Cell.TheVariants.{Byte, Frag}
use Rattle.sc_base.specs.declared.memory.Word.{Word}
use Rattle.sc_cells.specs.Pages.{whole_cells}
use Rattle.sc_cells.specs.Range.{range_of}
use Rattle.sc_mem.specs.Flat.{Flat, place, cells_at, cells_from}
use Rattle.sc_mem.specs.Words.{IsWritten, bytes_of, number_of, pieces_of}

one-is : (a : ℕ) → a + 256 * 0 ≡ a
one-is a = omega arith

two-is : (a b : ℕ) → a + 256 * (b + 256 * 0) ≡ a + 256 * b
two-is a b = omega arith

pub one_written : (c : Cell) (a n : ℕ) → c ≡ Byte a → n ≡ a → IsWritten (c ∷ []) (record { bits = n; tag = 0 })
one_written c a n e f = inl (refl, (a ∷ [], ap (λ (x : Cell). x ∷ []) e, ap (λ (x : Cell). number_of (x ∷ [])) e ∙ (one-is a ∙ sym f)))

pub two_written : (c d : Cell) (a b m n : ℕ) → c ≡ Byte a → d ≡ Byte b → m ≡ a → n ≡ b → IsWritten (c ∷ d ∷ []) (record { bits = m + 256 * n; tag = 0 })
two_written c d a b m n e f g h = inl (refl, (a ∷ b ∷ [], ap (λ (x : Cell). x ∷ d ∷ []) e ∙ ap (λ (x : Cell). Byte a ∷ x ∷ []) f, ap (λ (x : Cell). number_of (x ∷ d ∷ [])) e ∙ (ap (λ (x : Cell). number_of (Byte a ∷ x ∷ [])) f ∙ (two-is a b ∙ (ap (λ k. k + 256 * b) (sym g) ∙ ap (λ k. m + 256 * k) (sym h))))))

four-is : (n : ℕ) → n < 2 ^ 32 → n % 256 + 256 * (n / 256 % 256 + 256 * (n / 65536 % 256 + 256 * (n / 16777216 % 256 + 256 * 0))) ≡ n
four-is n h = omega arith

is-none : (n : ℕ) → (n == 0) ≡ true → n ≡ 0
is-none n h = grind (arith, nat_tests)

is-some : (n : ℕ) → (n == 0) ≡ false → n ≢ 0
is-some n h = grind (arith, nat_tests)

pub four_written : (cells : List Cell) (w : Word) → w.bits < 2 ^ 32 → cells ≡ whole_cells w → IsWritten cells w
four_written cells w small is = subst (λ (xs : List Cell). IsWritten xs w) (sym is) (by (w.tag == 0) refl)
  where
    by : (b : Bool) → (w.tag == 0) ≡ b → IsWritten (cond b (Byte (w.bits % 256) ∷ Byte (w.bits / 256 % 256) ∷ Byte (w.bits / 65536 % 256) ∷ Byte (w.bits / 16777216 % 256) ∷ []) (pieces_of w)) w
    by true e = inl (is-none w.tag e, (bytes_of w.bits, refl, four-is w.bits small))
    by false e = inr (is-some w.tag e, refl)

pub placed_written : (m : Flat) (at n i : ℕ) (w : Word) → place m at n ≡ Some i → IsWritten (range_of m.cells i n) w → IsSome (place m at n) × IsWritten (cells_at m at n) w
placed_written m at n i w e h = (subst IsSome (sym e) refl, subst (λ (q : Option ℕ). IsWritten (cells_from m.cells q n) w) (sym e) h)
