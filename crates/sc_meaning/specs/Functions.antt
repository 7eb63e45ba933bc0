-- Yardstick: to be compared with what it restates (docs/TRUST.md).
-- The library, one case for each function (ANSI 4.2, 4.3, 4.9 to 4.11).
use Rattle.std.specs.Prelude.{ℕ, zero, suc, ◌+◌, ◌-◌, ◌*◌, ◌/◌, ◌%◌, ◌^◌, ◌==◌, ◌&&◌, ◌||◌, Bool, true, false, not, min, nat_le, nat_lt, if◌then◌else◌, List, [], ◌∷◌, ◌++◌, length, replicate, Option, Some, None, ℤ, pos, neg_ℤ, nat_abs, int_lt, decimal}
use Rattle.sc_base.specs.declared.integer.Int.TheVariants.{Int as PlainInt}
use Rattle.sc_base.specs.declared.key.Key.{Key}
use Rattle.sc_fmt.specs.Format.{is_digit}
use Rattle.sc_fmt.specs.Classes.{is_upper, is_lower, is_alpha, is_alnum, is_xdigit, is_space, is_print, is_graph, is_punct, is_cntrl}
use Rattle.sc_ops.specs.Numbers.{number_of, bits_of, is_in_range}
use Rattle.sc_ops.specs.Operators.{truth_of}
use Rattle.sc_meaning.specs.declared.library.LibFun.{LibFun}
use Rattle.sc_meaning.specs.declared.library.LibFun.TheVariants as lib
use Rattle.sc_meaning.specs.Values.{Value, Number, Pointer, Byte, null}
use Rattle.sc_meaning.specs.World.{World, pass, Work, Put, Read, Seed, tick}
use Rattle.sc_meaning.specs.Outcomes.{Outcome, Done, Over, Exit, and_then, unless, access_breach, moved}
use Rattle.sc_meaning.specs.Violations.{reach_rule, write_rule, bits, is_null}
use Rattle.sc_meaning.specs.Accesses.{copy_at}
use Rattle.sc_meaning.specs.Versions.{History}
use Rattle.sc_meaning.specs.Expressions.{Answer, Nothing, either}
use Rattle.sc_meaning.specs.Library.{gives, value_at, out_of_range, byte_read, text_upto, text_at, past, bytes_written, apart, shown, taken, address_or_null, block_tested, given_back, block_size_at}
use Rattle.sc_meaning.specs.Printf.{printf}

-- -1, as `getchar` gives it at the end of the input
abbrev pub end_of_file : ℕ
end_of_file = 2 ^ 32 - 1

-- the functions on characters take a byte or the end of the input
abbrev pub is_character : ℕ → Bool
is_character c = nat_lt c 256 || c == end_of_file

abbrev pub on_character : Key → List Value → (ℕ → ℕ) → World → Outcome Answer
on_character key vs f w = either (is_character (bits (value_at vs 0))) (gives (Number (f (bits (value_at vs 0))))) (out_of_range key vs 1) w

abbrev pub in_class : (ℕ → Bool) → ℕ → ℕ
in_class test c = truth_of (test c)

abbrev pub lower : ℕ → ℕ
lower c = if is_upper c then c + 32 else c

abbrev pub upper : ℕ → ℕ
upper c = if is_lower c then c - 32 else c

-- 4.9: input and output
abbrev pub putchar : History → ℕ → World → Outcome Answer
putchar h c w = and_then (shown h (c % 256 ∷ []) w) (λ _ w. gives (Number (c % 256)) w)

abbrev pub puts : History → Value → World → Outcome Answer
puts h p w = and_then (text_at p w) (λ bs w. and_then (shown h (bs ++ 10 ∷ []) w) (λ _ w. gives null w))

abbrev pub got : List ℕ → World → Outcome Answer
got [] w = gives (Number end_of_file) w
got (b ∷ rest) w = gives (Number b) (tick (pass Read w))

-- 4.10.3: the heap
abbrev pub malloc : ℕ → World → Outcome Answer
malloc n w = either (n == 0) (gives null) (λ w. and_then (taken n w) (λ o w. gives (address_or_null o) w)) w

abbrev pub zeroed : ℕ → Option ℕ → World → Outcome Answer
zeroed n None w = gives null w
zeroed n (Some o) w = gives (Pointer o 0) (pass (Work n) (pass (Put o 0 (replicate n (Byte 0))) w))

abbrev pub calloc : ℕ → ℕ → World → Outcome Answer
calloc n m w = either (n * m == 0 || nat_le (2 ^ 32) (n * m)) (gives null) (λ w. and_then (taken (n * m) w) (zeroed (n * m))) w

abbrev pub free : Value → World → Outcome Answer
free p w = either (is_null p) (Done Nothing) (λ w. and_then (block_tested p w) (λ _ w. Done Nothing (given_back p w))) w

-- the cells that both have are copied, and the old block is given back
abbrev pub enlarged : Value → ℕ → Option ℕ → World → Outcome Answer
enlarged p n None w = gives null w
enlarged p n (Some o) w =
    let both : ℕ = min n (block_size_at w p) in
    gives (Pointer o 0) (given_back p (pass (Work (2 * both)) (copy_at (Pointer o 0) 0 p 0 both w)))

abbrev pub reallocated : Value → ℕ → World → Outcome Answer
reallocated p n w = either (n == 0) (λ w. gives null (given_back p w)) (λ w. and_then (taken n w) (enlarged p n)) w

abbrev pub realloc : Value → ℕ → World → Outcome Answer
realloc p n w = either (is_null p) (malloc n) (λ w. and_then (block_tested p w) (λ _ w. reallocated p n w)) w

-- 4.11.2: bytes. The source's whole range is tested, then the overlap, then the target's whole range.
abbrev pub copied_bytes : Value → Value → ℕ → World → Outcome Answer
copied_bytes to from n w =
    unless (write_rule w.objects to 0 n) (access_breach to 0 n w) (λ w. gives to (pass (Work (2 * n)) (copy_at to 0 from 0 n w))) w

abbrev pub memmove : Value → Value → ℕ → World → Outcome Answer
memmove to from n w =
    either (n == 0) (gives to) (λ w. unless (reach_rule w.objects from 0 n) (access_breach from 0 n w) (copied_bytes to from n) w) w

abbrev pub memcpy : Value → Value → ℕ → World → Outcome Answer
memcpy to from n w =
    either (n == 0) (gives to)
    (λ w. unless (reach_rule w.objects from 0 n) (access_breach from 0 n w) (λ w. and_then (apart to n from n w) (λ _ w. copied_bytes to from n w)) w) w

abbrev pub set_all : Value → ℕ → ℕ → World → World
set_all (Pointer o i) c n w = pass (Work n) (pass (Put o i (replicate n (Byte (c % 256)))) w)
set_all _ c n w = w

abbrev pub memset : Value → ℕ → ℕ → World → Outcome Answer
memset p c n w =
    either (n == 0) (gives p) (λ w. unless (write_rule w.objects p 0 n) (access_breach p 0 n w) (λ w. gives p (set_all p c n w)) w) w

-- 4.11.4: comparisons go byte by byte, the first argument's before the second's, up to the first difference
abbrev pub order_of : ℕ → ℕ → Value
order_of a b = if nat_lt a b then Number end_of_file else Number (truth_of (nat_lt b a))

abbrev pub bytes_compared : ℕ → Bool → Value → Value → ℕ → World → Outcome Answer
bytes_compared zero to_zero p q i w = gives null w
bytes_compared (suc n) to_zero p q i w =
    and_then (byte_read p i w) (λ a w. and_then (byte_read q i w) (λ b w.
    either (not (a == b) || to_zero && a == 0) (gives (order_of a b)) (bytes_compared n to_zero p q (i + 1)) w))

abbrev pub strcmp : Value → Value → World → Outcome Answer
strcmp p q w = bytes_compared (past w p) true p q 0 w

-- 4.11.2.3, 4.11.3: texts. The source is read to its end, then the overlap is tested, then the target is written.
abbrev pub text_written : Value → ℕ → Value → List ℕ → World → Outcome Answer
text_written to at from bs w =
    and_then (apart (moved to at) (length bs) from (length bs) w) (λ _ w. and_then (bytes_written to at bs w) (λ _ w. gives to w))

abbrev pub strcpy : Value → Value → World → Outcome Answer
strcpy to from w = and_then (text_at from w) (λ bs w. text_written to 0 from (bs ++ 0 ∷ []) w)

abbrev pub strcat : Value → Value → World → Outcome Answer
strcat to from w =
    and_then (text_at from w) (λ bs w. and_then (text_at to w) (λ old w. text_written to (length old) from (bs ++ 0 ∷ []) w))

-- how many bytes `strncpy` reads: the zero byte too, where it comes
abbrev pub read_count : ℕ → List ℕ → ℕ
read_count n bs = min n (length bs + 1)

abbrev pub strncpy : Value → Value → ℕ → World → Outcome Answer
strncpy to from n w =
    either (n == 0) (gives to)
    (λ w. and_then (text_upto n from 0 w) (λ bs w. and_then (apart to n from (read_count n bs) w) (λ _ w.
    and_then (bytes_written to 0 (bs ++ replicate (n - length bs) 0) w) (λ _ w. gives to w)))) w

abbrev pub strlen : Value → World → Outcome Answer
strlen p w = and_then (text_at p w) (λ bs w. gives (Number (length bs)) w)

-- the first byte equal to c, up to the zero byte
abbrev pub first_found : ℕ → Value → ℕ → ℕ → World → Outcome Answer
first_found zero p c i w = gives null w
first_found (suc n) p c i w =
    and_then (byte_read p i w) (λ b w. either (b == c) (gives (moved p i)) (either (b == 0) (gives null) (first_found n p c (i + 1))) w)

abbrev pub last_found : ℕ → Value → ℕ → ℕ → Value → World → Outcome Answer
last_found zero p c i found w = gives found w
last_found (suc n) p c i found w =
    and_then (byte_read p i w) (λ b w.
    let now : Value = if b == c then moved p i else found in
    either (b == 0) (gives now) (last_found n p c (i + 1) now) w)

-- 4.10.1: the number that a text begins with
pub record Seen : Type 0 where
  pub at : ℕ
  pub byte : ℕ

abbrev pub after_space : ℕ → Value → ℕ → World → Outcome Seen
after_space zero p i w = Done (record { at = i; byte = 0 }) w
after_space (suc n) p i w =
    and_then (byte_read p i w) (λ b w. either (is_space b) (after_space n p (i + 1)) (Done (record { at = i; byte = b })) w)

abbrev pub digits_from : ℕ → Value → ℕ → ℕ → ℕ → World → Outcome ℕ
digits_from zero p i b sum w = Done sum w
digits_from (suc n) p i b sum w =
    either (is_digit b) (λ w. and_then (byte_read p (i + 1) w) (λ c w. digits_from n p (i + 1) c (sum * 10 + (b - 48)) w)) (Done sum) w

abbrev pub is_sign : ℕ → Bool
is_sign b = b == 43 || b == 45

abbrev pub signed_value : ℕ → ℕ → ℤ
signed_value sign n = if sign == 45 then neg_ℤ (pos n) else pos n

abbrev pub in_range : Key → List Value → ℤ → World → Outcome Answer
in_range key vs z w = either (is_in_range z) (gives (Number (bits_of z))) (out_of_range key vs 1) w

abbrev pub unsigned_from : Key → List Value → Value → Seen → World → Outcome Answer
unsigned_from key vs p s w = and_then (digits_from (past w p) p s.at s.byte 0 w) (λ n w. in_range key vs (pos n) w)

abbrev pub signed_from : Key → List Value → Value → Seen → World → Outcome Answer
signed_from key vs p s w =
    and_then (byte_read p (s.at + 1) w) (λ b w. and_then (digits_from (past w p) p (s.at + 1) b 0 w) (λ n w. in_range key vs (signed_value s.byte n) w))

abbrev pub atoi : Key → List Value → Value → World → Outcome Answer
atoi key vs p w =
    and_then (after_space (past w p) p 0 w) (λ s w. either (is_sign s.byte) (signed_from key vs p s) (unsigned_from key vs p s) w)

-- 4.10.6.1
abbrev pub abs : Key → List Value → ℤ → World → Outcome Answer
abs key vs z w = in_range key vs (pos (nat_abs z)) w

-- 4.10.2: pseudo-random numbers
abbrev pub next_seed : ℕ → ℕ
next_seed s = (s * 1103515245 + 12345) % 2 ^ 32

abbrev pub rand : World → Outcome Answer
rand w = let s : ℕ = next_seed w.seed in gives (Number (s / 65536 % 32768)) (pass (Seed s) w)

-- 4.10.4: all statements that have begun end
abbrev pub exit : ℕ → World → Outcome Answer
exit status w = Over (Exit status (pass (Work w.begun) w))

-- the bytes of `assertion failed: `, `, file ` and `, line `
abbrev pub failed : List ℕ
failed = 97 ∷ 115 ∷ 115 ∷ 101 ∷ 114 ∷ 116 ∷ 105 ∷ 111 ∷ 110 ∷ 32 ∷ 102 ∷ 97 ∷ 105 ∷ 108 ∷ 101 ∷ 100 ∷ 58 ∷ 32 ∷ []

abbrev pub in_file : List ℕ
in_file = 44 ∷ 32 ∷ 102 ∷ 105 ∷ 108 ∷ 101 ∷ 32 ∷ []

abbrev pub on_line : List ℕ
on_line = 44 ∷ 32 ∷ 108 ∷ 105 ∷ 110 ∷ 101 ∷ 32 ∷ []

-- 4.2: `assertion failed: TEXT, file FILE, line N`
abbrev pub signed_text : ℤ → List ℕ
signed_text z = if int_lt z (pos 0) then 45 ∷ decimal (nat_abs z) else decimal (nat_abs z)

abbrev pub assertion_text : List ℕ → List ℕ → ℤ → List ℕ
assertion_text text file line = failed ++ text ++ in_file ++ file ++ on_line ++ signed_text line ++ 10 ∷ []

abbrev pub assert_fail : History → Value → Value → ℕ → World → Outcome Answer
assert_fail h text file line w =
    and_then (text_at text w) (λ t w. and_then (text_at file w) (λ f w.
    and_then (shown h (assertion_text t f (number_of PlainInt line)) w) (λ _ w. exit 134 w)))

-- the call of a function with its arguments
abbrev pub library_call : History → LibFun → Key → List Value → World → Outcome Answer
library_call h lib.Putchar key vs w = putchar h (bits (value_at vs 0)) w
library_call h lib.Puts key vs w = puts h (value_at vs 0) w
library_call h lib.Printf key vs w = printf h key vs w
library_call h lib.Getchar key vs w = got w.input w
library_call h lib.Malloc key vs w = malloc (bits (value_at vs 0)) w
library_call h lib.Calloc key vs w = calloc (bits (value_at vs 0)) (bits (value_at vs 1)) w
library_call h lib.Realloc key vs w = realloc (value_at vs 0) (bits (value_at vs 1)) w
library_call h lib.Free key vs w = free (value_at vs 0) w
library_call h lib.Memcpy key vs w = memcpy (value_at vs 0) (value_at vs 1) (bits (value_at vs 2)) w
library_call h lib.Memmove key vs w = memmove (value_at vs 0) (value_at vs 1) (bits (value_at vs 2)) w
library_call h lib.Memset key vs w = memset (value_at vs 0) (bits (value_at vs 1)) (bits (value_at vs 2)) w
library_call h lib.Memcmp key vs w = bytes_compared (bits (value_at vs 2)) false (value_at vs 0) (value_at vs 1) 0 w
library_call h lib.Strlen key vs w = strlen (value_at vs 0) w
library_call h lib.Strcpy key vs w = strcpy (value_at vs 0) (value_at vs 1) w
library_call h lib.Strncpy key vs w = strncpy (value_at vs 0) (value_at vs 1) (bits (value_at vs 2)) w
library_call h lib.Strcat key vs w = strcat (value_at vs 0) (value_at vs 1) w
library_call h lib.Strcmp key vs w = strcmp (value_at vs 0) (value_at vs 1) w
library_call h lib.Strncmp key vs w = bytes_compared (bits (value_at vs 2)) true (value_at vs 0) (value_at vs 1) 0 w
library_call h lib.Strchr key vs w = first_found (past w (value_at vs 0)) (value_at vs 0) (bits (value_at vs 1) % 256) 0 w
library_call h lib.Strrchr key vs w = last_found (past w (value_at vs 0)) (value_at vs 0) (bits (value_at vs 1) % 256) 0 null w
library_call h lib.Atoi key vs w = atoi key vs (value_at vs 0) w
library_call h lib.Abs key vs w = abs key vs (number_of PlainInt (bits (value_at vs 0))) w
library_call h lib.Rand key vs w = rand w
library_call h lib.Srand key vs w = Done Nothing (pass (Seed (bits (value_at vs 0))) w)
library_call h lib.Exit key vs w = exit (bits (value_at vs 0)) w
library_call h lib.Isalnum key vs w = on_character key vs (in_class is_alnum) w
library_call h lib.Isalpha key vs w = on_character key vs (in_class is_alpha) w
library_call h lib.Iscntrl key vs w = on_character key vs (in_class is_cntrl) w
library_call h lib.Isdigit key vs w = on_character key vs (in_class is_digit) w
library_call h lib.Isgraph key vs w = on_character key vs (in_class is_graph) w
library_call h lib.Islower key vs w = on_character key vs (in_class is_lower) w
library_call h lib.Isprint key vs w = on_character key vs (in_class is_print) w
library_call h lib.Ispunct key vs w = on_character key vs (in_class is_punct) w
library_call h lib.Isspace key vs w = on_character key vs (in_class is_space) w
library_call h lib.Isupper key vs w = on_character key vs (in_class is_upper) w
library_call h lib.Isxdigit key vs w = on_character key vs (in_class is_xdigit) w
library_call h lib.Tolower key vs w = on_character key vs lower w
library_call h lib.Toupper key vs w = on_character key vs upper w
library_call h lib.AssertFail key vs w = assert_fail h (value_at vs 0) (value_at vs 1) (bits (value_at vs 2)) w
