-- Register 0 is written back behind each write.
use Rattle.std.proofs.Common.{◌≡◌, ℕ, zero, suc, ◌==◌, false, List, [], ◌∷◌, refl, sym, ap, ◌∙◌, Some, arith}
use Rattle.std.specs.Prelude.{slice_get, slice_set}
use Rattle.std.proofs.lemmas.List.{length-set}
use Rattle.std.proofs.lemmas.Bool.{ne_eqb}
use Rattle.sc_base.specs.declared.memory.Word.{Word}
use Rattle.sc_emu.specs.Operations.{plain}
use Rattle.sc_emu.specs.Registers.{AreRegisters, with_word}

first-of : (x : Word) (xs : List Word) → slice_get (x ∷ xs) 0 ≡ Some (plain 0) → x ≡ plain 0
first-of x xs h = cc (h)

no-zero : (m : ℕ) → (suc m == 0) ≡ false
no-zero m = ne_eqb (suc m) 0 (λ e. omega arith)

pub written_back : (words : List Word) (n : ℕ) (w : Word) → AreRegisters words → slice_set (slice_set words n w) 0 (plain 0) ≡ with_word words n w
written_back [] n w r = absurd (cc (r.zero))
written_back (x ∷ xs) zero w r = ap (λ (y : Word). y ∷ xs) (sym (first-of x xs r.zero))
written_back (x ∷ xs) (suc m) w r = rw (no-zero m) (ap (λ (y : Word). y ∷ slice_set xs m w) (sym (first-of x xs r.zero)))

pub registers_kept : (words : List Word) (n : ℕ) (w : Word) → AreRegisters words → AreRegisters (slice_set (slice_set words n w) 0 (plain 0))
registers_kept [] n w r = absurd (cc (r.zero))
registers_kept (x ∷ xs) zero w r = record { count = r.count; zero = refl }
registers_kept (x ∷ xs) (suc m) w r = record { count = ap suc (length-set xs m w) ∙ r.count; zero = refl }
