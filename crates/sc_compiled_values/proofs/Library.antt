-- What library functions give: values, of the sort of their results.
use Rattle.std.specs.Prelude.{⊤, ◌||◌, ◌-◌, replicate}
use Rattle.std.proofs.Common.{◌≡◌, ℕ, zero, suc, ◌+◌, ◌*◌, ◌^◌, ◌==◌, ◌%◌, Bool, true, false, nat_le, List, [], ◌∷◌, ◌++◌, length, Option, Some, None, refl, ap, subst}
use Rattle.sc_base.specs.declared.integer.Int.{Int}
use Rattle.sc_base.specs.declared.key.Key.{Key}
use Rattle.sc_types.specs.declared.ctype.CType.{CType, out-CType}
use Rattle.sc_types.specs.declared.ctype.CType.TheOpen.{CType-F}
use Rattle.sc_types.specs.declared.ctype.Signature.{Signature}
use Rattle.sc_types.specs.Compatibility.{same_bool, same_int, same_const}
use Rattle.sc_meaning.specs.declared.library.LibFun.{LibFun}
use Rattle.sc_meaning.specs.declared.library.LibFun.TheVariants as lib
use Rattle.sc_meaning.specs.Values.{Value, Number, FunctionAt, Pointer}
use Rattle.sc_meaning.specs.World.{World}
use Rattle.sc_meaning.specs.Outcomes.{Outcome, Done, Over}
use Rattle.sc_meaning.specs.Versions.{History}
use Rattle.sc_meaning.specs.Violations.{bits, is_null, reach_rule, write_rule}
use Rattle.sc_meaning.specs.Expressions.{Answer, Plain, Place, Part, Nothing}
use Rattle.sc_meaning.specs.Integers.{layer_is_integer, IsInteger, Gives}
use Rattle.sc_meaning.specs.Library.{value_at, text_at, text_upto, byte_read, past, apart, bytes_written, taken, block_tested}
use Rattle.sc_meaning.specs.Signatures.{Shape, ToNone, ToInt, ToVoid, ToText, has_shape, have_shapes, shapes_of, fits_shapes, takes, is_variadic}
use Rattle.sc_meaning.specs.Functions.{library_call, malloc, zeroed, enlarged, reallocated, copied_bytes, text_written, first_found, last_found, read_count}
use Rattle.sc_meaning.proofs.Numbers.{then_, either_, unless_}
use Rattle.sc_meaning.proofs.LibraryNumbers.{library_number}
use Rattle.sc_compiled_values.specs.Fits.{Whole, Address, sort, sort_of, IsBits, IsValue, IsResult}
use Rattle.sc_compiled_values.proofs.Types.{both, one_int}
use Rattle.sc_compiled_values.proofs.Loading.{any_gives}

-- no place
abbrev IsPlain : Answer → Type 0
IsPlain a = IsValue Address a

zeroed_plain : (n : ℕ) (o : Option ℕ) (w : World) → Gives IsPlain (zeroed n o w)
zeroed_plain n None w = tt
zeroed_plain n (Some o) w = tt

malloc_plain : (n : ℕ) (w : World) → Gives IsPlain (malloc n w)
malloc_plain n w = either_ IsPlain (n == 0) _ _ w tt (then_ IsPlain (taken n w) _ (λ o u. tt))

enlarged_plain : (p : Value) (n : ℕ) (o : Option ℕ) (w : World) → Gives IsPlain (enlarged p n o w)
enlarged_plain p n None w = tt
enlarged_plain p n (Some o) w = tt

reallocated_plain : (p : Value) (n : ℕ) (w : World) → Gives IsPlain (reallocated p n w)
reallocated_plain p n w = either_ IsPlain (n == 0) _ _ w tt (then_ IsPlain (taken n w) _ (λ o u. enlarged_plain p n o u))

copied_plain : (to from : Value) (n : ℕ) (w : World) → Gives IsPlain (copied_bytes to from n w)
copied_plain to from n w = unless_ IsPlain (write_rule w.objects to 0 n) _ _ w (λ e. tt)

written_plain : (to : Value) (at : ℕ) (from : Value) (bs : List ℕ) (w : World) → Gives IsPlain (text_written to at from bs w)
written_plain to at from bs w = then_ IsPlain (apart _ (length bs) from (length bs) w) _ (λ x u. then_ IsPlain (bytes_written to at bs u) _ (λ y v. tt))

first_plain : (n : ℕ) (p : Value) (c i : ℕ) (w : World) → Gives IsPlain (first_found n p c i w)
first_plain zero p c i w = tt
first_plain (suc n) p c i w = then_ IsPlain (byte_read p i w) _ (λ b u. either_ IsPlain (b == c) _ _ u tt (either_ IsPlain (b == 0) _ _ u tt (first_plain n p c (i + 1) u)))

last_plain : (n : ℕ) (p : Value) (c i : ℕ) (found : Value) (w : World) → Gives IsPlain (last_found n p c i found w)
last_plain zero p c i found w = tt
last_plain (suc n) p c i found w = then_ IsPlain (byte_read p i w) _ (λ b u. either_ IsPlain (b == 0) _ _ u tt (last_plain n p c (i + 1) _ u))

-- functions whose result is a pointer
abbrev gives_pointer : Shape → Bool
gives_pointer (ToVoid c) = true
gives_pointer (ToText c) = true
gives_pointer (ToInt k) = false
gives_pointer ToNone = false

abbrev first_shape : List Shape → Shape
first_shape [] = ToNone
first_shape (r ∷ ps) = r

abbrev result_of : LibFun → Shape
result_of f = first_shape (shapes_of f)

-- an integer that a library function gives is an `int` or an `unsigned int`
abbrev IsWord : Shape → Type 0
IsWord (ToInt k) = (n : ℕ) → IsBits k (Number n)
IsWord (ToVoid c) = ⊤
IsWord (ToText c) = ⊤
IsWord ToNone = ⊤

word_result : (f : LibFun) → IsWord (result_of f)
word_result lib.Putchar = λ n. tt
word_result lib.Puts = λ n. tt
word_result lib.Printf = λ n. tt
word_result lib.Getchar = λ n. tt
word_result lib.Malloc = tt
word_result lib.Calloc = tt
word_result lib.Realloc = tt
word_result lib.Free = tt
word_result lib.Memcpy = tt
word_result lib.Memmove = tt
word_result lib.Memset = tt
word_result lib.Memcmp = λ n. tt
word_result lib.Strlen = λ n. tt
word_result lib.Strcpy = tt
word_result lib.Strncpy = tt
word_result lib.Strcat = tt
word_result lib.Strcmp = λ n. tt
word_result lib.Strncmp = λ n. tt
word_result lib.Strchr = tt
word_result lib.Strrchr = tt
word_result lib.Atoi = λ n. tt
word_result lib.Abs = λ n. tt
word_result lib.Rand = λ n. tt
word_result lib.Srand = tt
word_result lib.Exit = tt
word_result lib.Isalnum = λ n. tt
word_result lib.Isalpha = λ n. tt
word_result lib.Iscntrl = λ n. tt
word_result lib.Isdigit = λ n. tt
word_result lib.Isgraph = λ n. tt
word_result lib.Islower = λ n. tt
word_result lib.Isprint = λ n. tt
word_result lib.Ispunct = λ n. tt
word_result lib.Isspace = λ n. tt
word_result lib.Isupper = λ n. tt
word_result lib.Isxdigit = λ n. tt
word_result lib.Tolower = λ n. tt
word_result lib.Toupper = λ n. tt
word_result lib.AssertFail = tt

pointer_plain : (h : History) (f : LibFun) (key : Key) (vs : List Value) (w : World) → gives_pointer (result_of f) ≡ true → Gives IsPlain (library_call h f key vs w)
pointer_plain h lib.Putchar key vs w e = absurd (cc)
pointer_plain h lib.Puts key vs w e = absurd (cc)
pointer_plain h lib.Printf key vs w e = absurd (cc)
pointer_plain h lib.Getchar key vs w e = absurd (cc)
pointer_plain h lib.Malloc key vs w e = malloc_plain (bits (value_at vs 0)) w
pointer_plain h lib.Calloc key vs w e = let n = bits (value_at vs 0) in let m = bits (value_at vs 1) in either_ IsPlain (n * m == 0 || nat_le (2 ^ 32) (n * m)) _ _ w tt (then_ IsPlain (taken (n * m) w) _ (λ o u. zeroed_plain (n * m) o u))
pointer_plain h lib.Realloc key vs w e = let p = value_at vs 0 in let n = bits (value_at vs 1) in either_ IsPlain (is_null p) _ _ w (malloc_plain n w) (then_ IsPlain (block_tested p w) _ (λ x u. reallocated_plain p n u))
pointer_plain h lib.Free key vs w e = absurd (cc)
pointer_plain h lib.Memcpy key vs w e = let to = value_at vs 0 in let from = value_at vs 1 in let n = bits (value_at vs 2) in either_ IsPlain (n == 0) _ _ w tt (unless_ IsPlain (reach_rule w.objects from 0 n) _ _ w (λ e. then_ IsPlain (apart to n from n w) _ (λ x u. copied_plain to from n u)))
pointer_plain h lib.Memmove key vs w e = let to = value_at vs 0 in let from = value_at vs 1 in let n = bits (value_at vs 2) in either_ IsPlain (n == 0) _ _ w tt (unless_ IsPlain (reach_rule w.objects from 0 n) _ _ w (λ e. copied_plain to from n w))
pointer_plain h lib.Memset key vs w e = let n = bits (value_at vs 2) in either_ IsPlain (n == 0) _ _ w tt (unless_ IsPlain (write_rule w.objects (value_at vs 0) 0 n) _ _ w (λ e. tt))
pointer_plain h lib.Memcmp key vs w e = absurd (cc)
pointer_plain h lib.Strlen key vs w e = absurd (cc)
pointer_plain h lib.Strcpy key vs w e = let to = value_at vs 0 in let from = value_at vs 1 in then_ IsPlain (text_at from w) _ (λ bs u. written_plain to 0 from (bs ++ 0 ∷ []) u)
pointer_plain h lib.Strncpy key vs w e = let to = value_at vs 0 in let from = value_at vs 1 in let n = bits (value_at vs 2) in either_ IsPlain (n == 0) _ _ w tt (then_ IsPlain (text_upto n from 0 w) _ (λ bs u. then_ IsPlain (apart to n from (read_count n bs) u) _ (λ x v. then_ IsPlain (bytes_written to 0 (bs ++ replicate (n - length bs) 0) v) _ (λ y z. tt))))
pointer_plain h lib.Strcat key vs w e = let to = value_at vs 0 in let from = value_at vs 1 in then_ IsPlain (text_at from w) _ (λ bs u. then_ IsPlain (text_at to u) _ (λ old v. written_plain to (length old) from (bs ++ 0 ∷ []) v))
pointer_plain h lib.Strcmp key vs w e = absurd (cc)
pointer_plain h lib.Strncmp key vs w e = absurd (cc)
pointer_plain h lib.Strchr key vs w e = let p = value_at vs 0 in first_plain (past w p) p (bits (value_at vs 1) % 256) 0 w
pointer_plain h lib.Strrchr key vs w e = let p = value_at vs 0 in last_plain (past w p) p (bits (value_at vs 1) % 256) 0 _ w
pointer_plain h lib.Atoi key vs w e = absurd (cc)
pointer_plain h lib.Abs key vs w e = absurd (cc)
pointer_plain h lib.Rand key vs w e = absurd (cc)
pointer_plain h lib.Srand key vs w e = absurd (cc)
pointer_plain h lib.Exit key vs w e = absurd (cc)
pointer_plain h lib.Isalnum key vs w e = absurd (cc)
pointer_plain h lib.Isalpha key vs w e = absurd (cc)
pointer_plain h lib.Iscntrl key vs w e = absurd (cc)
pointer_plain h lib.Isdigit key vs w e = absurd (cc)
pointer_plain h lib.Isgraph key vs w e = absurd (cc)
pointer_plain h lib.Islower key vs w e = absurd (cc)
pointer_plain h lib.Isprint key vs w e = absurd (cc)
pointer_plain h lib.Ispunct key vs w e = absurd (cc)
pointer_plain h lib.Isspace key vs w e = absurd (cc)
pointer_plain h lib.Isupper key vs w e = absurd (cc)
pointer_plain h lib.Isxdigit key vs w e = absurd (cc)
pointer_plain h lib.Tolower key vs w e = absurd (cc)
pointer_plain h lib.Toupper key vs w e = absurd (cc)
pointer_plain h lib.AssertFail key vs w e = absurd (cc)

shapes_result : (rs : List Shape) (s : Signature) → fits_shapes rs s ≡ true → has_shape true (first_shape rs) (out-CType s.result) ≡ true
shapes_result [] s h = absurd (cc)
shapes_result (r ∷ ps) s h = (both (has_shape true r (out-CType s.result)) (have_shapes ps s.params) h).0

pub takes_result : (f : LibFun) (s : Signature) → takes f s ≡ true → has_shape true (result_of f) (out-CType s.result) ≡ true
takes_result f s h = shapes_result (shapes_of f) s (both (same_bool (is_variadic f) s.variadic) (fits_shapes (shapes_of f) s) h).1

integer_bits : (k : Int) (a : Answer) → ((n : ℕ) → IsBits k (Number n)) → IsInteger a → IsValue (Whole k) a
integer_bits k (Plain (Number n)) q h = q n
integer_bits k (Plain (FunctionAt f)) q h = absurd h
integer_bits k (Plain (Pointer o at)) q h = absurd h
integer_bits k (Place p) q h = absurd h
integer_bits k (Part p n) q h = absurd h
integer_bits k Nothing q h = tt

gives_more : {A : Type 0} (P Q : A → Type 0) (r : Outcome A) → Gives P r → ((a : A) → P a → Q a) → Gives Q r
gives_more P Q (Done a w) h q = q a h
gives_more P Q (Over e) h q = tt

no_pointer_shape : (r : Shape) (t : CType) (c : Bool) → has_shape true r (CType-F.Pointer t c) ≡ true → gives_pointer r ≡ true
no_pointer_shape (ToVoid d) t c h = refl
no_pointer_shape (ToText d) t c h = refl
no_pointer_shape (ToInt k) t c h = absurd (cc)
no_pointer_shape ToNone t c h = absurd (cc)

int_shape : (r : Shape) (k : Int) (c : Bool) → has_shape true r (CType-F.Int k c) ≡ true → IsWord r → (n : ℕ) → IsBits k (Number n)
int_shape (ToInt j) k c h q n = subst (λ (z : Int). IsBits z (Number n)) (one_int j k (both (same_int j k) (same_const true false c) h).0) (q n)
int_shape (ToVoid d) k c h q n = absurd (cc)
int_shape (ToText d) k c h q n = absurd (cc)
int_shape ToNone k c h q n = absurd (cc)

fits_level : (h : History) (f : LibFun) (key : Key) (vs : List Value) (w : World) (s : Signature) (l : CType-F CType Signature) → out-CType s.result ≡ l → takes f s ≡ true → has_shape true (result_of f) l ≡ true → Gives (IsResult (sort l)) (library_call h f key vs w)
fits_level h f key vs w s (CType-F.Void c) o t e = any_gives (library_call h f key vs w)
fits_level h f key vs w s (CType-F.Int k c) o t e = gives_more IsInteger (IsValue (Whole k)) (library_call h f key vs w) (library_number h f key vs w s t (ap layer_is_integer o)) (λ a p. integer_bits k a (int_shape (result_of f) k c e (word_result f)) p)
fits_level h f key vs w s (CType-F.Pointer u c) o t e = pointer_plain h f key vs w (no_pointer_shape (result_of f) u c e)
fits_level h f key vs w s (CType-F.Array u n) o t e = any_gives (library_call h f key vs w)
fits_level h f key vs w s (CType-F.Struct u c) o t e = any_gives (library_call h f key vs w)
fits_level h f key vs w s (CType-F.Function g) o t e = any_gives (library_call h f key vs w)

pub library_fits : (h : History) (f : LibFun) (key : Key) (vs : List Value) (w : World) (s : Signature) → takes f s ≡ true → Gives (IsResult (sort_of s.result)) (library_call h f key vs w)
library_fits h f key vs w s t = fits_level h f key vs w s (out-CType s.result) refl t (takes_result f s t)
