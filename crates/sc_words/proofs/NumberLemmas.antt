-- The number that digits write, digit by digit.
use Rattle.std.proofs.Common.{◌≡◌, ◌<◌, ◌≤◌, ◌+◌, ◌*◌, ◌-◌, ℕ, true, List, length, take, get_or, refl, arith}
use Rattle.std.specs.List.{list_all}
use Rattle.std.specs.Str.Parse.{digits_value}
use Rattle.std.proofs.lemmas.Bool.Decides.{nat_tests}
use Rattle.std.proofs.lemmas.Str.{digit_value_digit}
use Rattle.std.proofs.lemmas.Str.Parse.{IsDigitsTest, IsNumeralModel, numerals_by_value, digits_value_short, digit_at, digits_value-take-le}
use Rattle.std.proofs.lemmas.Int.Digits.{digits_value_more}
use Rattle.sc_words.specs.Parts.{is_digit, is_numeral}

tells : IsDigitsTest (λ ds. list_all is_digit ds ≡ true)
tells = record {
  empty = refl;
  parts = λ c cs h. grind (arith, nat_tests);
  more = λ c cs r h. grind (arith, nat_tests);
}

own : IsNumeralModel (λ ds. list_all is_digit ds ≡ true) (digits_value 10)
own = numerals_by_value _ tells

digits_of_numeral : (most : ℕ) (ds : List ℕ) → is_numeral most ds ≡ true → list_all is_digit ds ≡ true
digits_of_numeral most ds h = grind (arith, nat_tests)

length_of_numeral : (most : ℕ) (ds : List ℕ) → is_numeral most ds ≡ true → length ds ≤ most
length_of_numeral most ds h = grind (arith, nat_tests)

pub numeral-lt : (ds : List ℕ) → is_numeral 9 ds ≡ true → digits_value 10 ds < 1000000000
numeral-lt ds h = digits_value_short own ds 9 (digits_of_numeral 9 ds h) (length_of_numeral 9 ds h)

-- the next digit
pub record Step (ds : List ℕ) (i n d : ℕ) : Type 0 where
  pub low : 48 ≤ d
  pub high : d ≤ 57
  pub next : n * 10 + (d - 48) ≡ digits_value 10 (take (i + 1) ds)
  pub small : n * 10 + (d - 48) < 10000000000

pub step_of : (ds : List ℕ) (i n d : ℕ) → is_numeral 10 ds ≡ true → i < length ds → n ≡ digits_value 10 (take i ds) → d ≡ get_or ds i 0 → Step ds i n d
step_of ds i n d h lt is at =
    let all = digits_of_numeral 10 ds h in
    let range = digit_at ds i (own.to ds all) lt in
    let value = digit_value_digit (get_or ds i 0) range in
    let more = digits_value_more 10 ds i lt in
    let whole = digits_value_short own ds 10 all (length_of_numeral 10 ds h) in
    let part = digits_value-take-le 10 ds (i + 1) (omega arith) in
    record {
      low = omega arith;
      high = omega arith;
      next = omega arith;
      small = omega arith;
    }
