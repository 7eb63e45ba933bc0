-- Facts for the writer of numbers.
use Rattle.std.proofs.Common.{◌≡◌, ℕ, ◌/◌, ◌%◌, ◌<◌, ◌≤◌, List, [], ◌∷◌, ◌++◌, map, reverse, sym, ap, ◌∙◌, arith}
use Rattle.std.specs.Int.Digits.{digits_of}
use Rattle.std.proofs.lemmas.List.{append_assoc, reverse-append, map-append}
use Rattle.std.proofs.lemmas.Int.Digits.{digits_of_step}
use Rattle.sc_fmt.specs.declared.conversion.Conv.{Conv}
use Rattle.sc_fmt.specs.Numbers.{base_of, digit_char, digits_text}

-- the last digit comes off
digits_text-step : (p : Conv) (rest base : ℕ) → base ≡ base_of p → 2 ≤ base → 0 < rest
    → digits_text p rest ≡ digits_text p (rest / base) ++ digit_char p (rest % base) ∷ []
digits_text-step p rest base e low positive =
    ap (λ b. map (digit_char p) (digits_of b rest)) (sym e)
    ∙ ap (map (digit_char p)) (digits_of_step base rest low positive)
    ∙ map-append (digit_char p) (digits_of base (rest / base)) (rest % base ∷ [])
    ∙ ap (λ b. map (digit_char p) (digits_of b (rest / base)) ++ digit_char p (rest % base) ∷ []) e

-- one more digit is found
pub digits_text-more : (p : Conv) (n rest base d : ℕ) (was now : List ℕ) → base ≡ base_of p → 8 ≤ base → 0 < rest → d ≡ digit_char p (rest % base)
    → digits_text p n ≡ digits_text p rest ++ reverse was → now ≡ was ++ d ∷ []
    → digits_text p n ≡ digits_text p (rest / base) ++ reverse now
digits_text-more p n rest base d was now e low positive digit found pushed =
    found
    ∙ ap (λ x. x ++ reverse was) (digits_text-step p rest base e (omega arith) positive)
    ∙ append_assoc (digits_text p (rest / base)) (digit_char p (rest % base) ∷ []) (reverse was)
    ∙ ap (λ x. digits_text p (rest / base) ++ x ∷ reverse was) (sym digit)
    ∙ ap (λ x. digits_text p (rest / base) ++ x) (sym (reverse-append was (d ∷ [])) ∙ ap reverse (sym pushed))
