-- One element of a list is done.
use Rattle.std.proofs.Common.{◌≡◌, ℕ, suc, ◌+◌, ◌<◌, List, ◌∷◌, drop, length, get_or, sym, ◌∙◌, ap, arith}
use Rattle.std.specs.Prelude.{Ok}
use Rattle.std.proofs.Math.Seq.{drop-cons}
use Rattle.sc_check_body.specs.Faults.{Checked, and_then, each}

first_of : {X : Type 0} (xs : List X) (i : ℕ) (x : X) → i < length xs → x ≡ get_or xs i x → drop i xs ≡ x ∷ drop (i + 1) xs
first_of {X} xs i x h e =
    let next : suc i ≡ i + 1 = omega arith in
    drop-cons xs i x h ∙ ap (λ (y : X). y ∷ drop (suc i) xs) (sym e) ∙ ap (λ (n : ℕ). x ∷ drop n xs) next

pub turned : {X A S : Type 0} (f : X → A → S → Checked (A × S)) (xs : List X) (i : ℕ) (x : X) (a b : A) (s t : S) (whole : Checked (A × S))
    → i < length xs → x ≡ get_or xs i x → each f (drop i xs) a s ≡ whole → f x a s ≡ Ok (b, t) → each f (drop (i + 1) xs) b t ≡ whole
turned {X} {A} {S} f xs i x a b s t whole h e before now =
    sym (ap (λ (o : Checked (A × S)). and_then o (λ (r : A × S). each f (drop (i + 1) xs) r.0 r.1)) now)
    ∙ sym (ap (λ (ys : List X). each f ys a s) (first_of xs i x h e))
    ∙ before
