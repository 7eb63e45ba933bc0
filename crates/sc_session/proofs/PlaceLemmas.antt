-- The place of a module among the others.
use Rattle.std.proofs.Common.{◌≡◌, ◌<◌, ◌≤◌, ℕ, zero, suc, true, false, List, [], ◌∷◌, length, get_or, refl, ap, sym, subst, arith, Some}
use Rattle.std.specs.Prelude.{slice_get, slice_set}
use Rattle.std.proofs.lemmas.Option.{slice_get_within}
use Rattle.sc_session_conflicts.specs.Clashes.{is_other}
use Rattle.sc_session.specs.declared.present.Present.{Present}
use Rattle.sc_session.specs.Loading.{in_place, IsPlace}

-- the first modules are others
abbrev pub IsBefore : Present → ℕ → List Present → Type 0
IsBefore new zero ps = Unit {0}
IsBefore new (suc n) [] = Unit {0}
IsBefore new (suc n) (p ∷ ps) = (is_other new.text.core p.text ≡ true) × IsBefore new n ps

some_same : {A : Type 0} (x y : A) → Some x ≡ Some y → x ≡ y
some_same x y e = cc

pub before_more : (new : Present) (n : ℕ) (ps : List Present) (p : Present) → slice_get ps n ≡ Some p → is_other new.text.core p.text ≡ true → IsBefore new n ps → IsBefore new (suc n) ps
before_more new zero [] p get other before = tt
before_more new zero (x ∷ ps) p get other before = (subst (λ y. is_other new.text.core y.text ≡ true) (sym (some_same x p get)) other, tt)
before_more new (suc n) [] p get other before = tt
before_more new (suc n) (x ∷ ps) p get other before = (before.0, before_more new n ps p get other before.1)

pub none_there : (new : Present) (n : ℕ) (ps : List Present) → IsBefore new n ps → length ps ≤ n → in_place ps new ≡ ps
none_there new n [] before all = refl
none_there new zero (x ∷ ps) before all = absurd (omega arith)
none_there new (suc n) (x ∷ ps) before all =
    let less : length ps ≤ n = omega arith in
    rw before.0 (ap (λ r. x ∷ r) (none_there new n ps before.1 less))

placed : (new : Present) (n : ℕ) (ps : List Present) (p : Present) → IsBefore new n ps → slice_get ps n ≡ Some p → is_other new.text.core p.text ≡ false → in_place ps new ≡ slice_set ps n new
placed new zero [] p before get other = cc
placed new zero (x ∷ ps) p before get other =
    subst (λ y. in_place (y ∷ ps) new ≡ slice_set (y ∷ ps) zero new) (sym (some_same x p get)) (rw other refl)
placed new (suc n) [] p before get other = cc
placed new (suc n) (x ∷ ps) p before get other = rw before.0 (ap (λ r. x ∷ r) (placed new n ps p before.1 get other))

pub place_found : (new : Present) (n : ℕ) (ps : List Present) (p : Present) → IsBefore new n ps → slice_get ps n ≡ Some p → is_other new.text.core p.text ≡ false → IsPlace ps new n
place_found new n ps p before get other = record {
  inside = slice_get_within ps n p get;
  placed = placed new n ps p before get other;
}

pub there : (ps : List Present) (i : ℕ) (p : Present) → i < length ps → p ≡ get_or ps i p → slice_get ps i ≡ Some p
there [] i p inside is = absurd (omega arith)
there (x ∷ ps) zero p inside is = ap Some (sym is)
there (x ∷ ps) (suc i) p inside is = let less : i < length ps = omega arith in there ps i p less is
