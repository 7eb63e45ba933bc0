-- Facts for the reader of formats.
use Rattle.std.proofs.Common.{drop, ◌==◌, ◌≡◌, ℕ, ◌+◌, ◌-◌, ◌*◌, ◌^◌, ◌<◌, ◌≤◌, true, min, List, length, take, get_or, nat_le, nat_lt, sym, ap, ◌∙◌, arith, subst}
use Rattle.std.specs.List.{AllPass, prefix_len, take_while}
use Rattle.std.specs.Char.{digit_value}
use Rattle.std.specs.Str.Parse.{digits_value}
use Rattle.std.proofs.lemmas.Bool.{and_parts, leb-true, cond-true, cond-false, lt-ltb, le-ltb}
use Rattle.std.proofs.lemmas.Int.Digits.{digits_value_more}
use Rattle.std.proofs.lemmas.List.Elements.{All-get_or}
use Rattle.std.proofs.lemmas.List.Sums.{prefix_len_passes}
use Rattle.std.proofs.lemmas.List.{length-take, length-drop, get_or-take}
use Rattle.sc_fmt.specs.Format.{first, is_flag, is_digit, is_kind, has, capped, count_len, count_at, precision_len, precision_at, modifier_len, at_flags, at_width, at_precision, at_modifier, at_kind, conversion_with, conversion_of}
use Rattle.sc_fmt.specs.declared.conversion.Conv.{Conv}
use Rattle.sc_fmt.specs.declared.conversion.Piece.TheVariants.{Wrong}
use Rattle.sc_fmt.specs.declared.conversion.Piece.TheVariants.{Conv as Converts}

-- a decimal digit is between 0 and 9
pub digit_bounds : (c : ℕ) → is_digit c ≡ true → (48 ≤ c) × (c ≤ 57)
digit_bounds c h = let p = and_parts (nat_le 48 c) (nat_le c 57) h in (leb-true 48 c p.0, leb-true c 57 p.1)

digit_value-is : (c : ℕ) → 48 ≤ c → c ≤ 57 → digit_value c ≡ c - 48
digit_value-is c low high = cond-false (nat_lt c 48) _ _ (le-ltb c 48 low) ∙ cond-true (nat_lt c 58) _ _ (lt-ltb c 58 (omega arith))

pub digit_at : (ds : List ℕ) (i : ℕ) → i < length ds → AllPass is_digit ds → is_digit (get_or ds i 0) ≡ true
digit_at ds i below digits = All-get_or (λ c. is_digit c ≡ true) ds i 0 below digits

-- one more digit
pub capped_more : (ds : List ℕ) (i m n r c : ℕ) → i < length ds → c ≡ get_or ds i 0 → is_digit c ≡ true
    → n ≡ capped (take i ds) → m ≡ min (n * 10) (2 ^ 32 - 1) → r ≡ min (m + (c - 48)) (2 ^ 32 - 1) → r ≡ capped (take (i + 1) ds)
capped_more ds i m n r c below item digit was product sum =
    let b = digit_bounds c digit in
    let more : digits_value 10 (take (i + 1) ds) ≡ digits_value 10 (take i ds) * 10 + (c - 48) =
    digits_value_more 10 ds i below ∙ ap (λ x. digits_value 10 (take i ds) * 10 + x) (ap digit_value (sym item) ∙ digit_value-is c b.0 b.1) in
    omega (arith, more, was, product, sum)

-- the digits at the front are digits
pub digits_pass : (bs ds : List ℕ) → ds ≡ take_while is_digit bs → AllPass is_digit ds
digits_pass bs ds e = let P : List ℕ → Type 0 = λ xs. AllPass is_digit xs in subst P (sym e) (λ k d below.
    let within : k < prefix_len is_digit bs = omega (arith, length-take (prefix_len is_digit bs) bs) in
    ap is_digit (get_or-take (prefix_len is_digit bs) bs k d within) ∙ prefix_len_passes is_digit bs k d within)

-- a conversion from its parts
module _ (bs flags width precision modifier kind : List ℕ) where
  parts_are : flags ≡ take_while is_flag (at_flags bs) → width ≡ at_width bs → precision ≡ at_precision bs → modifier ≡ at_modifier bs → kind ≡ at_kind bs
      → conversion_with (length bs - length (drop 1 kind)) flags width precision modifier kind ≡ conversion_of bs
  parts_are e f g h k = λ t. conversion_with (length bs - length (drop 1 (k t))) (e t) (f t) (g t) (h t) (k t)

  pub chained : (rest : List ℕ) → rest ≡ drop 1 bs → flags ≡ take_while is_flag rest → width ≡ drop (prefix_len is_flag rest) rest
      → precision ≡ drop (count_len width) width → modifier ≡ drop (precision_len precision) precision → kind ≡ drop (modifier_len modifier) modifier
      → conversion_with (length bs - length (drop 1 kind)) flags width precision modifier kind ≡ conversion_of bs
  chained rest a b c d e f =
      let w : width ≡ at_width bs = c ∙ ap (λ r. drop (prefix_len is_flag r) r) a in
      let p : precision ≡ at_precision bs = d ∙ ap (λ r. drop (count_len r) r) w in
      let m : modifier ≡ at_modifier bs = e ∙ ap (λ r. drop (precision_len r) r) p in
      parts_are (b ∙ ap (λ r. take_while is_flag r) a) w p m (f ∙ ap (λ r. drop (modifier_len r) r) m)

  pub written : (c : Conv) (n : ℕ) → c.minus ≡ has flags 45 → c.plus ≡ has flags 43 → c.space ≡ has flags 32 → c.alt ≡ has flags 35 → c.zero ≡ has flags 48
      → c.width ≡ count_at width → c.precision ≡ precision_at precision → c.half ≡ (first modifier == 104) → c.kind ≡ first kind → is_kind c.kind ≡ true
      → n ≡ length bs - (length kind - 1)
      → Converts c n ≡ conversion_with (length bs - length (drop 1 kind)) flags width precision modifier kind
  written c n a b d e f g h i j k l =
      let m : n ≡ length bs - length (drop 1 kind) = l ∙ ap (λ x. length bs - x) (sym (length-drop 1 kind)) in
      (λ t. Converts (record { minus = a t; plus = b t; space = d t; alt = e t; zero = f t; width = g t; precision = h t; half = i t; kind = j t }) (m t))
      ∙ sym (cond-true (is_kind (first kind)) _ Wrong (sym (ap is_kind j) ∙ k))
