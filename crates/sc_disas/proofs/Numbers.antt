-- Digits and the numbers that they stand for.
use Rattle.std.proofs.Common.{◌==◌, ◌≡◌, ℕ, zero, suc, ◌+◌, ◌-◌, ◌*◌, ◌^◌, ◌<◌, ◌≤◌, true, min, List, [], ◌∷◌, length, take, get_or, nat_le, nat_lt, Some, decimal, refl, sym, ap, subst, ◌∙◌, arith, rules}
use Rattle.std.specs.List.{AllPass, list_all}
use Rattle.std.specs.Char.{digit_value}
use Rattle.std.specs.Str.Parse.{digits_value}
use Rattle.std.proofs.lemmas.Bool.{and_parts, and_from, or_right, not_from_false, leb-true, le-leb, ne_eqb, cond-true, cond-false, lt-ltb, le-ltb}
use Rattle.std.proofs.lemmas.Bool.Decides.{nat_tests}
use Rattle.std.proofs.lemmas.Fmt.{digits_decimal, digits_value-decimal, decimal-digits_value, decimal_nonempty, first_decimal, decimal_digit, length-decimal-le}
use Rattle.std.proofs.lemmas.Int.Digits.{digits_value_more}
use Rattle.std.proofs.lemmas.List.Elements.{All-get_or}
use Rattle.std.proofs.lemmas.Option.{cond_some}
use Rattle.std.proofs.lemmas.Str.Parse.{IsNumeralModel, numerals_by_value, digits_value_short}
use Rattle.sc_disas.specs.Reading.{is_digit, begins_well, is_numeral, number_of}

-- a decimal digit is between 0 and 9
pub digit_bounds : (c : ℕ) → is_digit c ≡ true → (48 ≤ c) × (c ≤ 57)
digit_bounds c h = let p = and_parts (nat_le 48 c) (nat_le c 57) h in (leb-true 48 c p.0, leb-true c 57 p.1)

digit_value-is : (c : ℕ) → 48 ≤ c → c ≤ 57 → digit_value c ≡ c - 48
digit_value-is c low high = cond-false (nat_lt c 48) _ _ (le-ltb c 48 low) ∙ cond-true (nat_lt c 58) _ _ (lt-ltb c 58 (omega arith))

pub digit_at : (ds : List ℕ) (i : ℕ) → i < length ds → AllPass is_digit ds → is_digit (get_or ds i 0) ≡ true
digit_at ds i below digits = All-get_or (λ c. is_digit c ≡ true) ds i 0 below digits

-- one more digit
pub value_more : (ds : List ℕ) (i m n r c : ℕ) → i < length ds → c ≡ get_or ds i 0 → is_digit c ≡ true
    → n ≡ min (digits_value 10 (take i ds)) (2 ^ 32 - 1) → m ≡ min (n * 10) (2 ^ 32 - 1) → r ≡ min (m + (c - 48)) (2 ^ 32 - 1) → r ≡ min (digits_value 10 (take (i + 1) ds)) (2 ^ 32 - 1)
value_more ds i m n r c below item digit was product sum =
    let b = digit_bounds c digit in
    let more : digits_value 10 (take (i + 1) ds) ≡ digits_value 10 (take i ds) * 10 + (c - 48) =
    digits_value_more 10 ds i below ∙ ap (λ x. digits_value 10 (take i ds) * 10 + x) (ap digit_value (sym item) ∙ digit_value-is c b.0 b.1) in
    omega (arith, more, was, product, sum)

-- ---- what a numeral is

pub own : IsNumeralModel (λ ds. list_all is_digit ds ≡ true) (digits_value 10)
own = numerals_by_value (λ ds. list_all is_digit ds ≡ true) (search rules)

lead_of : (ds : List ℕ) → begins_well ds ≡ true → get_or ds 0 0 ≡ 48 → length ds ≡ 1
lead_of ds h is = grind (arith, nat_tests, h)

pub number_sound : (ds : List ℕ) (n : ℕ) → number_of ds ≡ Some n → (n < 10 ^ 7) × (decimal n ≡ ds)
number_sound ds n e =
    let (test, same) = cond_some (is_numeral ds) (digits_value 10 ds) n e in
    let (some, t1) = and_parts (nat_le 1 (length ds)) _ test in
    let (few, t2) = and_parts (nat_le (length ds) 7) _ t1 in
    let (digits, first) = and_parts (list_all is_digit ds) _ t2 in
    let small : digits_value 10 ds < 10 ^ 7 = digits_value_short own ds 7 digits (leb-true (length ds) 7 few) in
    let full : 0 < length ds = leb-true 1 (length ds) some in
    let fits : digits_value 10 ds < 2 ^ 64 = omega arith in
    let back : decimal (digits_value 10 ds) ≡ ds = decimal-digits_value own ds digits full (lead_of ds first) fits in
    (subst (λ m. m < 10 ^ 7) same small, ap decimal (sym same) ∙ back)

numeral_from : (ds : List ℕ) → nat_le 1 (length ds) ≡ true → nat_le (length ds) 7 ≡ true → list_all is_digit ds ≡ true → begins_well ds ≡ true → is_numeral ds ≡ true
numeral_from ds some few digits first = and_from _ _ some (and_from _ _ few (and_from _ _ digits first))

number_given : (ds : List ℕ) (n : ℕ) → is_numeral ds ≡ true → digits_value 10 ds ≡ n → number_of ds ≡ Some n
number_given ds n test value = cond-true (is_numeral ds) _ _ test ∙ ap (λ m. Some m) value

one_digit : (ds : List ℕ) → ds ≡ 48 ∷ [] → begins_well ds ≡ true
one_digit ds e = rw e refl

no_zero : (ds : List ℕ) → 48 < get_or ds 0 0 → begins_well ds ≡ true
no_zero ds h = or_right (length ds == 1) _ (not_from_false _ (ne_eqb (get_or ds 0 0) 48 (omega arith)))

lead_is : (n : ℕ) → n < 10 ^ 7 → begins_well (decimal n) ≡ true
lead_is zero h = one_digit (decimal 0) (decimal_digit 0 (omega arith))
lead_is (suc n) h = no_zero (decimal (suc n)) (first_decimal (suc n) (omega arith) (omega arith))

pub number_complete : (n : ℕ) → n < 10 ^ 7 → number_of (decimal n) ≡ Some n
number_complete n h =
    let wide : n < 2 ^ 64 = omega arith in
    let some : 1 ≤ length (decimal n) = decimal_nonempty n wide in
    let few : length (decimal n) ≤ 7 = length-decimal-le 7 n (omega arith) h wide in
    let test = numeral_from (decimal n) (le-leb 1 _ some) (le-leb _ 7 few) (digits_decimal own n wide) (lead_is n h) in
    number_given (decimal n) n test (digits_value-decimal own n wide)

pub decimal_digits : (n : ℕ) → n < 10 ^ 7 → list_all is_digit (decimal n) ≡ true
decimal_digits n h = digits_decimal own n (omega arith)

-- the number of few digits is not cut
pub number_is : (ds : List ℕ) (v : ℕ) → is_numeral ds ≡ true → v ≡ min (digits_value 10 ds) (2 ^ 32 - 1) → Some v ≡ number_of ds
number_is ds v test e =
    let read = number_given ds (digits_value 10 ds) test refl in
    let small = (number_sound ds (digits_value 10 ds) read).0 in
    let same : v ≡ digits_value 10 ds = omega arith in
    ap (λ m. Some m) same ∙ sym read
