-- The classes of all characters of a range.
use Rattle.std.proofs.Common.{◌≡◌, ℕ, ◌+◌, ◌-◌, ◌<◌, ◌≤◌, ◌==◌, true, sym, ap, ◌∙◌, arith}
use Rattle.std.proofs.lemmas.Bool.{agree_below, agree_below_at, eqb-true}
use Rattle.sc_fmt.specs.Classes.{class_of}

-- the n characters from low on have these classes, where a test of each computes to true
pub in_range : (low n classes c : ℕ) → agree_below (λ k. class_of (low + k) == classes) (λ _. true) n ≡ true → low ≤ c → c < low + n → classes ≡ class_of c
in_range low n classes c computed above below =
    let place : low + (c - low) ≡ c = omega arith in
    let test : (class_of (low + (c - low)) == classes) ≡ true = agree_below_at (λ k. class_of (low + k) == classes) (λ _. true) n (c - low) computed (omega arith) in
    sym (ap class_of (sym place) ∙ eqb-true (class_of (low + (c - low))) classes test)
