-- Operands as they are written and read.
use Rattle.std.proofs.Common.{◌==◌, ◌≡◌, ℕ, zero, suc, ◌+◌, ◌-◌, ◌%◌, ◌^◌, ◌<◌, ◌≤◌, ◌≢◌, if◌then◌else◌, Bool, true, false, not, ℤ, pos, negsuc, List, [], ◌∷◌, ◌++◌, length, take, drop, get_or, nat_le, nat_lt, Option, None, Some, option_map, option_and_then, decimal, refl, sym, ap, ap₂, subst, ◌∙◌, arith, length-append, drop-cons}
use Rattle.std.specs.Int.{w32, cast_unsigned}
use Rattle.std.specs.List.{list_all}
use Rattle.std.specs.Fmt.{signed_decimal}
use Rattle.std.proofs.lemmas.Bool.{and_parts, leb-true, le-leb, eqb-true, eqb-false, eq-eqb, ne_eqb, ltb-true, lt-ltb, cond-true, cond-false}
use Rattle.std.proofs.lemmas.Bool.Decides.{nat_tests}
use Rattle.std.proofs.lemmas.Option.{cond_some, none-some, same_Some, option_and_then_some}
use Rattle.std.proofs.lemmas.List.{take_at, take-append-drop}
use Rattle.std.proofs.lemmas.List.Sums.{prefix_len_stops}
use Rattle.std.proofs.lemmas.Int.{ints}
use Rattle.sc_isa.specs.Table.{IsShort, IsBetween, IsEven, IsImmediate}
use Rattle.sc_isa.specs.declared.instruction.ImmOp.{ImmOp}
use Rattle.sc_isa.specs.declared.instruction.ImmOp.TheVariants.{Addi, Slli, Slti, Sltiu, Xori, Srli, Srai, Ori, Andi}
use Rattle.sc_disas.specs.Writing.{register, address, joined}
use Rattle.sc_disas.specs.Reading.{cut_len, cut, is_digit, number_of, at_most, upper_of, behind, small_of, register_of, below_zero, above_zero, signed_or, signed_of, even, branch_offset, jump_offset, short_of, immediate_of, register_then, base_of, address_of}
use Rattle.sc_disas.proofs.Numbers.{number_sound, number_complete, decimal_digits, digit_bounds}

-- ---- options

pub map_some : {A B P : Type 0} (f : A → B) (o : Option A) (y : B) → option_map f o ≡ Some y → ((x : A) → o ≡ Some x → f x ≡ y → P) → P
map_some f None y e k = absurd (none-some y e)
map_some f (Some x) y e k = k x refl (same_Some _ y e)

-- ---- numbers

at_most_sound : (most n m : ℕ) → at_most most n ≡ Some m → (n ≡ m) × (n ≤ most)
at_most_sound most n m e = let (test, same) = cond_some (nat_le n most) n m e in (same, leb-true n most test)

pub upper_sound : (text : List ℕ) (n : ℕ) → upper_of text ≡ Some n → (n < 2 ^ 20) × (decimal n ≡ text)
upper_sound text n e = option_and_then_some (at_most 1048575) (number_of text) n e (λ m read kept.
    let (same, most) = at_most_sound 1048575 m n kept in
    let (small, back) = number_sound text m read in
    (omega arith, ap decimal (sym same) ∙ back))

pub upper_complete : (n : ℕ) → n < 2 ^ 20 → upper_of (decimal n) ≡ Some n
upper_complete n h = rw (number_complete n (omega arith)) (cond-true _ _ _ (le-leb n 1048575 (omega arith)))

-- what stands behind a byte
pub behind_sound : (byte : ℕ) (text rest : List ℕ) → behind byte text ≡ Some rest → text ≡ byte ∷ rest
behind_sound byte [] rest e = absurd (none-some rest e)
behind_sound byte (c ∷ text) rest e = let (test, same) = cond_some (c == byte) text rest e in ap₂ (λ a b. a ∷ b) (eqb-true c byte test) same

pub behind_complete : (byte : ℕ) (rest : List ℕ) → behind byte (byte ∷ rest) ≡ Some rest
behind_complete byte rest = cond-true _ _ _ (eq-eqb byte byte refl)

small_sound : (text : List ℕ) (n : ℕ) → small_of text ≡ Some n → (n < 32) × (decimal n ≡ text)
small_sound text n e = option_and_then_some (at_most 31) (number_of text) n e (λ m read kept.
    let (same, most) = at_most_sound 31 m n kept in
    let (small, back) = number_sound text m read in
    (omega arith, ap decimal (sym same) ∙ back))

small_complete : (n : ℕ) → n < 32 → small_of (decimal n) ≡ Some n
small_complete n h = rw (number_complete n (omega arith)) (cond-true _ _ _ (le-leb n 31 (omega arith)))

pub register_sound : (text : List ℕ) (r : ℕ) → register_of text ≡ Some r → (r < 32) × (register r ≡ text)
register_sound text r e = option_and_then_some small_of (behind 120 text) r e (λ rest is read.
    let (small, back) = small_sound rest r read in
    (small, ap (λ t. 120 ∷ t) back ∙ sym (behind_sound 120 text rest is)))

pub register_complete : (r : ℕ) → r < 32 → register_of (register r) ≡ Some r
register_complete r h = small_complete r h

-- from minus the lowest to the highest
abbrev pub InRange : ℕ → ℕ → ℤ → Type 0
InRange lowest highest (pos n) = n ≤ highest
InRange lowest highest (negsuc n) = n < lowest

cond_none : {A : Type 0} (b : Bool) (o : Option A) (y : A) → (if b then None else o) ≡ Some y → (b ≡ false) × (o ≡ Some y)
cond_none true o y e = absurd (none-some y e)
cond_none false o y e = (refl, e)

below_sound : (lowest n : ℕ) (z : ℤ) → below_zero lowest n ≡ Some z → InRange lowest 0 z × (signed_decimal z ≡ 45 ∷ decimal n)
below_sound lowest n z e =
    let (some, kept) = cond_none (n == 0) (if nat_le n lowest then Some (negsuc (n - 1)) else None) z e in
    let (test, same) = cond_some (nat_le n lowest) (negsuc (n - 1)) z kept in
    let most : n ≤ lowest = leb-true n lowest test in
    let above : n ≢ 0 = eqb-false n 0 some in
    let whole : suc (n - 1) ≡ n = omega arith in
    let range : n - 1 < lowest = omega arith in
    (subst (λ y. InRange lowest 0 y) same range, subst (λ y. signed_decimal y ≡ 45 ∷ decimal n) same (ap (λ m. 45 ∷ decimal m) whole))

above_sound : (highest n : ℕ) (z : ℤ) → above_zero highest n ≡ Some z → InRange 0 highest z × (signed_decimal z ≡ decimal n)
above_sound highest n z e = let (test, same) = cond_some (nat_le n highest) (pos n) z e in
    (subst (λ y. InRange 0 highest y) same (leb-true n highest test), subst (λ y. signed_decimal y ≡ decimal n) same refl)

wider : (lowest highest : ℕ) (z : ℤ) → InRange lowest 0 z → InRange lowest highest z
wider lowest highest (pos n) h = omega arith
wider lowest highest (negsuc n) h = h

higher : (lowest highest : ℕ) (z : ℤ) → InRange 0 highest z → InRange lowest highest z
higher lowest highest (pos n) h = h
higher lowest highest (negsuc n) h = absurd (omega arith)

or_sound : (lowest highest : ℕ) (o : Option (List ℕ)) (text : List ℕ) (z : ℤ) → behind 45 text ≡ o → signed_or lowest highest o text ≡ Some z
    → InRange lowest highest z × (signed_decimal z ≡ text)
or_sound lowest highest None text z is e = option_and_then_some (above_zero highest) (number_of text) z e (λ n read kept.
    let (range, writes) = above_sound highest n z kept in
    (higher lowest highest z range, writes ∙ (number_sound text n read).1))
or_sound lowest highest (Some digits) text z is e = option_and_then_some (below_zero lowest) (number_of digits) z e (λ n read kept.
    let (range, writes) = below_sound lowest n z kept in
    (wider lowest highest z range, writes ∙ ap (λ t. 45 ∷ t) (number_sound digits n read).1 ∙ sym (behind_sound 45 text digits is)))

pub signed_sound : (lowest highest : ℕ) (text : List ℕ) (z : ℤ) → signed_of lowest highest text ≡ Some z → InRange lowest highest z × (signed_decimal z ≡ text)
signed_sound lowest highest text z e = or_sound lowest highest (behind 45 text) text z refl e

-- a text of digits begins with no minus
no_minus : (text : List ℕ) → list_all is_digit text ≡ true → behind 45 text ≡ None
no_minus [] h = refl
no_minus (c ∷ text) h = let (digit, rest) = and_parts _ _ h in let (low, high) = digit_bounds c digit in cond-false _ _ _ (ne_eqb c 45 (omega arith))

below_given : (lowest n m : ℕ) → m ≡ suc n → n < lowest → below_zero lowest m ≡ Some (negsuc n)
below_given lowest n m e h =
    let some : m ≢ 0 = omega arith in
    let most : m ≤ lowest = omega arith in
    let same : m - 1 ≡ n = omega arith in
    cond-false (m == 0) _ _ (ne_eqb m 0 some) ∙ cond-true (nat_le m lowest) _ _ (le-leb m lowest most) ∙ ap (λ k. Some (negsuc k)) same

pub signed_complete : (lowest highest : ℕ) (z : ℤ) → lowest < 10 ^ 7 → highest < 10 ^ 7 → InRange lowest highest z → signed_of lowest highest (signed_decimal z) ≡ Some z
signed_complete lowest highest (pos n) l h range =
    rw (no_minus (decimal n) (decimal_digits n (omega arith)), number_complete n (omega arith)) (cond-true _ _ _ (le-leb n highest range))
signed_complete lowest highest (negsuc n) l h range =
    rw (number_complete (suc n) (omega arith)) (below_given lowest n (suc n) refl range)

-- ---- the numbers of instructions

pub short_in : (z : ℤ) → InRange 2048 2047 z → IsShort z
short_in (pos n) h = grind (arith, ints, nat_tests)
short_in (negsuc n) h = grind (arith, ints, nat_tests)

pub short_out : (z : ℤ) → IsShort z → InRange 2048 2047 z
short_out (pos n) h = grind (arith, ints, nat_tests)
short_out (negsuc n) h = grind (arith, ints, nat_tests)

signed_offset : (lowest highest : ℕ) (text : List ℕ) (z : ℤ) → option_and_then even (signed_of lowest highest text) ≡ Some z → InRange lowest highest z × IsEven z × (signed_decimal z ≡ text)
signed_offset lowest highest text z e = option_and_then_some even (signed_of lowest highest text) z e (λ y read kept.
    let (test, same) = cond_some (cast_unsigned w32 y % 2 == 0) y z kept in
    let (range, writes) = signed_sound lowest highest text y read in
    (subst (λ x. InRange lowest highest x) same range, subst (λ x. IsEven x) same (eqb-true _ 0 test), subst (λ x. signed_decimal x ≡ text) same writes))

offset_signed : (lowest highest : ℕ) (z : ℤ) → lowest < 10 ^ 7 → highest < 10 ^ 7 → InRange lowest highest z → IsEven z → option_and_then even (signed_of lowest highest (signed_decimal z)) ≡ Some z
offset_signed lowest highest z l h range twice = ap (λ o. option_and_then even o) (signed_complete lowest highest z l h range) ∙ cond-true _ _ _ (eq-eqb _ 0 twice)

branch_in : (z : ℤ) → InRange 4096 4094 z → IsBetween (negsuc 4095) (pos 4094) z
branch_in (pos n) h = grind (arith, ints, nat_tests)
branch_in (negsuc n) h = grind (arith, ints, nat_tests)

branch_out : (z : ℤ) → IsBetween (negsuc 4095) (pos 4094) z → InRange 4096 4094 z
branch_out (pos n) h = grind (arith, ints, nat_tests)
branch_out (negsuc n) h = grind (arith, ints, nat_tests)

jump_in : (z : ℤ) → InRange 1048576 1048574 z → IsBetween (negsuc 1048575) (pos 1048574) z
jump_in (pos n) h = grind (arith, ints, nat_tests)
jump_in (negsuc n) h = grind (arith, ints, nat_tests)

jump_out : (z : ℤ) → IsBetween (negsuc 1048575) (pos 1048574) z → InRange 1048576 1048574 z
jump_out (pos n) h = grind (arith, ints, nat_tests)
jump_out (negsuc n) h = grind (arith, ints, nat_tests)

shift_in : (z : ℤ) → InRange 0 31 z → IsBetween (pos 0) (pos 31) z
shift_in (pos n) h = grind (arith, ints, nat_tests)
shift_in (negsuc n) h = absurd (omega arith)

shift_out : (z : ℤ) → IsBetween (pos 0) (pos 31) z → InRange 0 31 z
shift_out (pos n) h = grind (arith, ints, nat_tests)
shift_out (negsuc n) h = grind (arith, ints, nat_tests)

pub branch_sound : (text : List ℕ) (z : ℤ) → branch_offset text ≡ Some z → IsBetween (negsuc 4095) (pos 4094) z × IsEven z × (signed_decimal z ≡ text)
branch_sound text z e = let h = signed_offset 4096 4094 text z e in (branch_in z h.0, h.1, h.2)

pub branch_complete : (z : ℤ) → IsBetween (negsuc 4095) (pos 4094) z → IsEven z → branch_offset (signed_decimal z) ≡ Some z
branch_complete z range twice = offset_signed 4096 4094 z (omega arith) (omega arith) (branch_out z range) twice

pub jump_sound : (text : List ℕ) (z : ℤ) → jump_offset text ≡ Some z → IsBetween (negsuc 1048575) (pos 1048574) z × IsEven z × (signed_decimal z ≡ text)
jump_sound text z e = let h = signed_offset 1048576 1048574 text z e in (jump_in z h.0, h.1, h.2)

pub jump_complete : (z : ℤ) → IsBetween (negsuc 1048575) (pos 1048574) z → IsEven z → jump_offset (signed_decimal z) ≡ Some z
jump_complete z range twice = offset_signed 1048576 1048574 z (omega arith) (omega arith) (jump_out z range) twice

pub short_sound : (text : List ℕ) (z : ℤ) → short_of text ≡ Some z → IsShort z × (signed_decimal z ≡ text)
short_sound text z e = let (range, writes) = signed_sound 2048 2047 text z e in (short_in z range, writes)

pub short_complete : (z : ℤ) → IsShort z → short_of (signed_decimal z) ≡ Some z
short_complete z h = signed_complete 2048 2047 z (omega arith) (omega arith) (short_out z h)

shift_sound : (text : List ℕ) (z : ℤ) → signed_of 0 31 text ≡ Some z → IsBetween (pos 0) (pos 31) z × (signed_decimal z ≡ text)
shift_sound text z e = let (range, writes) = signed_sound 0 31 text z e in (shift_in z range, writes)

shift_complete : (z : ℤ) → IsBetween (pos 0) (pos 31) z → signed_of 0 31 (signed_decimal z) ≡ Some z
shift_complete z h = signed_complete 0 31 z (omega arith) (omega arith) (shift_out z h)

pub immediate_sound : (op : ImmOp) (text : List ℕ) (z : ℤ) → immediate_of op text ≡ Some z → IsImmediate op z × (signed_decimal z ≡ text)
immediate_sound Slli text z e = shift_sound text z e
immediate_sound Srli text z e = shift_sound text z e
immediate_sound Srai text z e = shift_sound text z e
immediate_sound Addi text z e = short_sound text z e
immediate_sound Slti text z e = short_sound text z e
immediate_sound Sltiu text z e = short_sound text z e
immediate_sound Xori text z e = short_sound text z e
immediate_sound Ori text z e = short_sound text z e
immediate_sound Andi text z e = short_sound text z e

pub immediate_complete : (op : ImmOp) (z : ℤ) → IsImmediate op z → immediate_of op (signed_decimal z) ≡ Some z
immediate_complete Slli z h = shift_complete z h
immediate_complete Srli z h = shift_complete z h
immediate_complete Srai z h = shift_complete z h
immediate_complete Addi z h = short_complete z h
immediate_complete Slti z h = short_complete z h
immediate_complete Sltiu z h = short_complete z h
immediate_complete Xori z h = short_complete z h
immediate_complete Ori z h = short_complete z h
immediate_complete Andi z h = short_complete z h

-- ---- where a text is cut

-- the byte is not in the text
abbrev pub Free : ℕ → List ℕ → Type 0
Free byte [] = Unit {0}
Free byte (c ∷ text) = ((c == byte) ≡ false) × Free byte text

free_digits : (byte : ℕ) (text : List ℕ) → byte < 48 → list_all is_digit text ≡ true → Free byte text
free_digits byte [] low h = tt
free_digits byte (c ∷ text) low h =
    let (digit, rest) = and_parts _ _ h in
    let (above, below) = digit_bounds c digit in
    (ne_eqb c byte (omega arith), free_digits byte text low rest)

free_register : (byte r : ℕ) → byte < 48 → r < 32 → Free byte (register r)
free_register byte r low h = (ne_eqb 120 byte (omega arith), free_digits byte (decimal r) low (decimal_digits r (omega arith)))

free_short : (byte : ℕ) (z : ℤ) → byte < 45 → IsShort z → Free byte (signed_decimal z)
free_short byte (pos n) low h = free_digits byte (decimal n) (omega arith) (decimal_digits n (grind (arith, ints, nat_tests)))
free_short byte (negsuc n) low h = (ne_eqb 45 byte (omega arith), free_digits byte (decimal (suc n)) (omega arith) (decimal_digits (suc n) (grind (arith, ints, nat_tests))))

cut_len-free : (byte : ℕ) (front rest : List ℕ) → Free byte front → cut_len byte (front ++ byte ∷ rest) ≡ length front
cut_len-free byte [] rest h = rw (eq-eqb byte byte refl) refl
cut_len-free byte (c ∷ front) rest h = let more = cut_len-free byte front rest h.1 in rw h.0 (omega arith)

drop_past : (front rest : List ℕ) (c n : ℕ) → n ≡ length front + 1 → drop n (front ++ c ∷ rest) ≡ rest
drop_past [] rest c n e = rw e refl
drop_past (d ∷ front) rest c zero e = absurd (omega arith)
drop_past (d ∷ front) rest c (suc n) e = drop_past front rest c n (omega arith)

pub cut_complete : (byte : ℕ) (front rest : List ℕ) → Free byte front → cut byte (front ++ byte ∷ rest) ≡ Some (front, rest)
cut_complete byte front rest h =
    let len = cut_len-free byte front rest h in
    let within : cut_len byte (front ++ byte ∷ rest) < length (front ++ byte ∷ rest) = omega (arith, length-append front (byte ∷ rest)) in
    cond-true _ _ _ (lt-ltb _ _ within)
    ∙ ap₂ (λ a b. Some (a, b)) (take_at front (byte ∷ rest) _ (sym len)) (drop_past front rest byte _ (omega arith))

pub cut_sound : (byte : ℕ) (text front rest : List ℕ) → cut byte text ≡ Some (front, rest) → text ≡ front ++ byte ∷ rest
cut_sound byte text front rest e =
    let n = cut_len byte text in
    let (test, same) = cond_some (nat_lt n (length text)) (take n text, drop (n + 1) text) (front, rest) e in
    let within : n < length text = ltb-true _ _ test in
    let stops : not (get_or text n 0 == byte) ≡ false = prefix_len_stops (λ b. not (b == byte)) text 0 within in
    let there : get_or text n 0 ≡ byte = grind (arith, nat_tests, stops) in
    let next : suc n ≡ n + 1 = omega arith in
    let behind_it : drop n text ≡ byte ∷ drop (n + 1) text = drop-cons text n 0 within ∙ ap₂ (λ a b. a ∷ b) there (ap (λ k. drop k text) next) in
    sym (take-append-drop n text) ∙ ap₂ (λ a b. a ++ b) (ap (λ p. p.0) same) (behind_it ∙ ap (λ p. byte ∷ p.1) same)

-- ---- a register with what stands behind it, and a place

pub then_sound : (text rest : List ℕ) (r : ℕ) → register_then text ≡ Some (r, rest) → (r < 32) × (joined (register r) rest ≡ text)
then_sound text rest r e = option_and_then_some _ (cut 44 text) (r, rest) e (λ p cut_is more.
    option_and_then_some _ (behind 32 p.1) (r, rest) more (λ tail behind_is last.
    map_some _ (register_of p.0) (r, rest) last (λ s read same.
    let r_is : s ≡ r = ap (λ q. q.0) same in
    let tail_is : tail ≡ rest = ap (λ q. q.1) same in
    let (small, writes) = register_sound p.0 s read in
    let whole = cut_sound 44 text p.0 p.1 cut_is ∙ ap (λ t. p.0 ++ 44 ∷ t) (behind_sound 32 p.1 tail behind_is) in
    (subst (λ k. k < 32) r_is small, ap₂ (λ a b. joined a b) (ap register (sym r_is) ∙ writes) (sym tail_is) ∙ sym whole))))

pub then_complete : (r : ℕ) (rest : List ℕ) → r < 32 → register_then (joined (register r) rest) ≡ Some (r, rest)
then_complete r rest h =
    ap (λ o. option_and_then (λ p. option_and_then (λ tail. option_map (λ s. (s, tail)) (register_of p.0)) (behind 32 p.1)) o)
    (cut_complete 44 (register r) (32 ∷ rest) (free_register 44 r (omega arith) h))
    ∙ ap (λ o. option_map (λ s. (s, rest)) o) (register_complete r h)

base_sound : (base rest : List ℕ) (r : ℕ) → base_of (base, rest) ≡ Some r → (rest ≡ []) × (r < 32) × (register r ≡ base)
base_sound base [] r e = let h = register_sound base r e in (refl, h.0, h.1)
base_sound base (c ∷ rest) r e = absurd (none-some r e)

pub address_sound : (text : List ℕ) (z : ℤ) (r : ℕ) → address_of text ≡ Some (z, r) → IsShort z × (r < 32) × (address z r ≡ text)
address_sound text z r e = option_and_then_some _ (cut 40 text) (z, r) e (λ p cut_is more.
    option_and_then_some _ (short_of p.0) (z, r) more (λ y offset_is last.
    map_some _ (option_and_then base_of (cut 41 p.1)) (z, r) last (λ s read same.
    option_and_then_some base_of (cut 41 p.1) s read (λ q closed_is base_is.
    let z_is : y ≡ z = ap (λ q. q.0) same in
    let r_is : s ≡ r = ap (λ q. q.1) same in
    let (range, writes) = short_sound p.0 y offset_is in
    let (ends, small, base) = base_sound q.0 q.1 s base_is in
    let tail : p.1 ≡ register s ++ 41 ∷ [] = cut_sound 41 p.1 q.0 q.1 closed_is ∙ ap₂ (λ a b. a ++ 41 ∷ b) (sym base) ends in
    let whole : text ≡ signed_decimal y ++ 40 ∷ (register s ++ 41 ∷ []) = cut_sound 40 text p.0 p.1 cut_is ∙ ap₂ (λ a b. a ++ 40 ∷ b) (sym writes) tail in
    (subst (λ x. IsShort x) z_is range, subst (λ k. k < 32) r_is small, ap₂ (λ a b. address a b) (sym z_is) (sym r_is) ∙ sym whole)))))

pub address_complete : (z : ℤ) (r : ℕ) → IsShort z → r < 32 → address_of (address z r) ≡ Some (z, r)
address_complete z r range h =
    ap (λ o. option_and_then (λ p. option_and_then (λ y. option_map (λ s. (y, s)) (option_and_then base_of (cut 41 p.1))) (short_of p.0)) o)
    (cut_complete 40 (signed_decimal z) (register r ++ 41 ∷ []) (free_short 40 z (omega arith) range))
    ∙ ap (λ o. option_and_then (λ y. option_map (λ s. (y, s)) (option_and_then base_of (cut 41 (register r ++ 41 ∷ [])))) o) (short_complete z range)
    ∙ ap (λ o. option_map (λ s. (z, s)) (option_and_then base_of o)) (cut_complete 41 (register r) [] (free_register 41 r (omega arith) h))
    ∙ ap (λ o. option_map (λ s. (z, s)) o) (register_complete r h)
