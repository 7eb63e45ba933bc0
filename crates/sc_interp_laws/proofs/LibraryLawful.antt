-- A call of the library changes what it may.
use Rattle.sc_base.specs.declared.integer.Int.TheVariants.{Int as PlainInt}
use Rattle.sc_base.specs.declared.key.Key.{Key}
use Rattle.sc_fmt.specs.Classes.{is_alnum, is_alpha, is_cntrl, is_graph, is_lower, is_print, is_punct, is_space, is_upper, is_xdigit}
use Rattle.sc_fmt.specs.Format.{is_digit, piece_of}
use Rattle.sc_fmt.specs.declared.conversion.Conv.{Conv}
use Rattle.sc_fmt.specs.declared.conversion.Count.{Count}
use Rattle.sc_fmt.specs.declared.conversion.Count.TheVariants.{Fixed, Star}
use Rattle.sc_fmt.specs.declared.conversion.Piece.{Piece}
use Rattle.sc_meaning.specs.Changes.{happened}
use Rattle.sc_meaning.specs.Functions.{Seen, after_space, assert_fail, assertion_text, atoi, bytes_compared, digits_from, exit, first_found, got, in_class, in_range, is_character, is_sign, last_found, library_call, lower, memcpy, memmove, next_seed, on_character, putchar, puts, read_count, signed_from, signed_value, strcat, strcpy, strlen, strncpy, text_written, unsigned_from, upper}
use Rattle.sc_meaning.specs.Library.{apart, byte_read, bytes_written, past, shown, text_at, text_upto, value_at}
use Rattle.sc_meaning.specs.Outcomes.{Outcome, moved, went, world_after}
use Rattle.sc_meaning.specs.Printf.{Printed, argument, argument_in, conversion_text, converted, counts_of, formatted, greatest, is_wrong, piece_text, precision_of, printf, signed, text_of, width_of}
use Rattle.sc_meaning.specs.Values.{Value, null}
use Rattle.sc_meaning.specs.Versions.{History}
use Rattle.sc_meaning.specs.Violations.{bits, is_overlapping, load_rule, reach_rule}
use Rattle.sc_meaning.specs.World.{Event, Happens, Out, Read, Seed, Work, World, pass, tick}
use Rattle.sc_meaning.specs.declared.library.LibFun.{LibFun}
use Rattle.sc_ops.specs.Numbers.{is_in_range, number_of}
use Rattle.std.proofs.Common.{Bool, List, None, Option, Some, [], drop, false, if◌then◌else◌, int_lt, length, nat_abs, nat_lt, not, pos, refl, replicate, slice_get, subst, suc, sym, true, zero, ℕ, ℤ, ◌%◌, ◌&&◌, ◌*◌, ◌++◌, ◌+◌, ◌-◌, ◌==◌, ◌||◌, ◌∷◌, ◌≡◌}
use Rattle.sc_fmt.specs.declared.conversion.Piece.TheVariants as piece
use Rattle.sc_meaning.specs.declared.library.LibFun.TheVariants as lib
use Rattle.sc_interp_laws.proofs.Heap.{G, here, quiet, quiet_two, then_go, either_go, unless_go, written_goes, malloc_goes, calloc_goes, free_goes, realloc_goes, copied_goes, memset_goes}

pub byte_goes : (p : Value) (i : ℕ) (w : World) → G w (world_after (byte_read p i w))
byte_goes p i w = unless_go (load_rule w.objects p i 1 false) _ _ w (λ e. (quiet (Work 1) w refl))

pub upto_goes : (n : ℕ) (p : Value) (i : ℕ) (w : World) → G w (world_after (text_upto n p i w))
upto_goes zero p i w = here w
upto_goes (suc n) p i w =
    then_go w (byte_read p i w) _ (byte_goes p i w) (λ b u.
    either_go (b == 0) _ _ u (here u) (then_go u (text_upto n p (i + 1) u) _ (upto_goes n p (i + 1) u) (λ bs v. here v)))

pub text_goes : (p : Value) (w : World) → G w (world_after (text_at p w))
text_goes p w = upto_goes (past w p) p 0 w

pub apart_goes : (to : Value) (n : ℕ) (from : Value) (m : ℕ) (w : World) → G w (world_after (apart to n from m w))
apart_goes to n from m w = either_go (is_overlapping to n from m) _ _ w (here w) (here w)

in_goes : (g : Printed) (k : ℕ) (b : Bool) (v : Option Value) (w : World) → G w (world_after (argument_in g k b v w))
in_goes g k b None w = here w
in_goes g k b (Some v) w = either_go (is_wrong b v) _ _ w (here w) (here w)

argument_goes : (g : Printed) (k : ℕ) (b : Bool) (w : World) → G w (world_after (argument g k b w))
argument_goes g k b w = in_goes g k b (slice_get g.args k) w

width_goes : (g : Printed) (c : Conv) (k : ℕ) (n : Option Count) (w : World) → G w (world_after (width_of g c k n w))
width_goes g c k None w = here w
width_goes g c k (Some (Fixed n)) w = either_go (nat_lt greatest n) _ _ w (here w) (here w)
width_goes g c k (Some Star) w =
    then_go w (argument g k false w) _ (argument_goes g k false w) (λ v u. either_go (nat_lt greatest (nat_abs (signed v))) _ _ u (here u) (here u))

precision_goes : (g : Printed) (c : Conv) (k : ℕ) (n : Option Count) (w : World) → G w (world_after (precision_of g c k n w))
precision_goes g c k None w = here w
precision_goes g c k (Some (Fixed n)) w = either_go (nat_lt greatest n) _ _ w (here w) (here w)
precision_goes g c k (Some Star) w =
    then_go w (argument g k false w) _ (argument_goes g k false w) (λ v u. either_go (int_lt (pos greatest) (signed v)) _ _ u (here u) (here u))

counts_go : (g : Printed) (c : Conv) (k : ℕ) (w : World) → G w (world_after (counts_of g c k w))
counts_go g c k w =
    then_go w (width_of g c k c.width w) _ (width_goes g c k c.width w) (λ f u. precision_goes g f.conv f.used f.conv.precision u)

precise_goes : (n : Option Count) (p : Value) (w : World) → G w (world_after (text_of n p w))
precise_goes None p w = text_goes p w
precise_goes (Some (Fixed n)) p w = upto_goes n p 0 w
precise_goes (Some Star) p w = text_goes p w

conversion_goes : (g : Printed) (c : Conv) (k : ℕ) (w : World) → G w (world_after (conversion_text g c k w))
conversion_goes g c k w =
    either_go (c.kind == 37) _ _ w (here w) (either_go (c.kind == 99) _ _ w (then_go w (argument g k false w) _ (argument_goes g k false w) (λ v u. here u)) (either_go (c.kind == 115) _ _ w (then_go w (argument g k true w) _ (argument_goes g k true w) (λ p u. then_go u (text_of c.precision p u) _ (precise_goes c.precision p u) (λ bs v. here v))) (then_go w (argument g k false w) _ (argument_goes g k false w) (λ v u. here u))))

converted_goes : (g : Printed) (c : Conv) (k : ℕ) (w : World) → G w (world_after (converted g c k w))
converted_goes g c k w = then_go w (counts_of g c k w) _ (counts_go g c k w) (λ f u. conversion_goes g f.conv f.used u)

piece_goes : (g : Printed) (k : ℕ) (rest : List ℕ) (later : ℕ → List ℕ → World → Outcome (List ℕ)) (x : Piece) (w : World) → ((n : ℕ) (bs : List ℕ) (u : World) → G u (world_after (later n bs u))) → G w (world_after (piece_text g k rest later x w))
piece_goes g k rest later (piece.Text n) w q = then_go w (later k (drop n rest) w) _ (q k (drop n rest) w) (λ more u. here u)
piece_goes g k rest later (piece.Conv c n) w q =
    then_go w (converted g c k w) _ (converted_goes g c k w) (λ t u. then_go u (later t.used (drop n rest) u) _ (q t.used (drop n rest) u) (λ more v. here v))
piece_goes g k rest later piece.End w q = here w
piece_goes g k rest later piece.Wrong w q = here w

formatted_goes : (n : ℕ) (g : Printed) (k : ℕ) (rest : List ℕ) (w : World) → G w (world_after (formatted n g k rest w))
formatted_goes zero g k rest w = here w
formatted_goes (suc n) g k rest w = piece_goes g k rest (formatted n g) (piece_of rest) w (formatted_goes n g)

character_goes : (key : Key) (vs : List Value) (f : ℕ → ℕ) (w : World) → G w (world_after (on_character key vs f w))
character_goes key vs f w = either_go (is_character (bits (value_at vs 0))) _ _ w (here w) (here w)

got_goes : (bs : List ℕ) (w : World) → G w (world_after (got bs w))
got_goes [] w = here w
got_goes (b ∷ bs) w = quiet_two Read (Work 1) w refl refl

memmove_goes : (to from : Value) (n : ℕ) (w : World) → G w (world_after (memmove to from n w))
memmove_goes to from n w =
    either_go (n == 0) _ _ w (here w) (unless_go (reach_rule w.objects from 0 n) _ _ w (λ e. (copied_goes to from n w)))

memcpy_goes : (to from : Value) (n : ℕ) (w : World) → G w (world_after (memcpy to from n w))
memcpy_goes to from n w =
    either_go (n == 0) _ _ w (here w) (unless_go (reach_rule w.objects from 0 n) _ _ w (λ e. (then_go w (apart to n from n w) _ (apart_goes to n from n w) (λ x u. copied_goes to from n u))))

compared_goes : (n : ℕ) (z : Bool) (p q : Value) (i : ℕ) (w : World) → G w (world_after (bytes_compared n z p q i w))
compared_goes zero z p q i w = here w
compared_goes (suc n) z p q i w =
    then_go w (byte_read p i w) _ (byte_goes p i w) (λ a u. then_go u (byte_read q i u) _ (byte_goes q i u) (λ b v.
    either_go (not (a == b) || z && a == 0) _ _ v (here v) (compared_goes n z p q (i + 1) v)))

target_goes : (to : Value) (at : ℕ) (from : Value) (bs : List ℕ) (w : World) → G w (world_after (text_written to at from bs w))
target_goes to at from bs w =
    then_go w (apart (moved to at) (length bs) from (length bs) w) _ (apart_goes (moved to at) (length bs) from (length bs) w) (λ x u.
    then_go u (bytes_written to at bs u) _ (written_goes to at bs u) (λ y v. here v))

strcpy_goes : (to from : Value) (w : World) → G w (world_after (strcpy to from w))
strcpy_goes to from w = then_go w (text_at from w) _ (text_goes from w) (λ bs u. target_goes to 0 from (bs ++ 0 ∷ []) u)

strcat_goes : (to from : Value) (w : World) → G w (world_after (strcat to from w))
strcat_goes to from w =
    then_go w (text_at from w) _ (text_goes from w) (λ bs u. then_go u (text_at to u) _ (text_goes to u) (λ old v. target_goes to (length old) from (bs ++ 0 ∷ []) v))

strncpy_goes : (to from : Value) (n : ℕ) (w : World) → G w (world_after (strncpy to from n w))
strncpy_goes to from n w =
    either_go (n == 0) _ _ w (here w) (then_go w (text_upto n from 0 w) _ (upto_goes n from 0 w) (λ bs u.
    then_go u (apart to n from (read_count n bs) u) _ (apart_goes to n from (read_count n bs) u) (λ x v.
    let all : List ℕ = bs ++ replicate (n - length bs) 0 in
    then_go v (bytes_written to 0 all v) _ (written_goes to 0 all v) (λ y z. here z))))

strlen_goes : (p : Value) (w : World) → G w (world_after (strlen p w))
strlen_goes p w = then_go w (text_at p w) _ (text_goes p w) (λ bs u. here u)

first_goes : (n : ℕ) (p : Value) (c i : ℕ) (w : World) → G w (world_after (first_found n p c i w))
first_goes zero p c i w = here w
first_goes (suc n) p c i w =
    then_go w (byte_read p i w) _ (byte_goes p i w) (λ b u.
    either_go (b == c) _ _ u (here u) (either_go (b == 0) _ _ u (here u) (first_goes n p c (i + 1) u)))

last_goes : (n : ℕ) (p : Value) (c i : ℕ) (found : Value) (w : World) → G w (world_after (last_found n p c i found w))
last_goes zero p c i found w = here w
last_goes (suc n) p c i found w =
    then_go w (byte_read p i w) _ (byte_goes p i w) (λ b u.
    let now : Value = if b == c then moved p i else found in
    either_go (b == 0) _ _ u (here u) (last_goes n p c (i + 1) now u))

space_goes : (n : ℕ) (p : Value) (i : ℕ) (w : World) → G w (world_after (after_space n p i w))
space_goes zero p i w = here w
space_goes (suc n) p i w =
    then_go w (byte_read p i w) _ (byte_goes p i w) (λ b u. either_go (is_space b) _ _ u (space_goes n p (i + 1) u) (here u))

digits_go : (n : ℕ) (p : Value) (i b sum : ℕ) (w : World) → G w (world_after (digits_from n p i b sum w))
digits_go zero p i b sum w = here w
digits_go (suc n) p i b sum w =
    either_go (is_digit b) _ _ w (then_go w (byte_read p (i + 1) w) _ (byte_goes p (i + 1) w) (λ c u. digits_go n p (i + 1) c (sum * 10 + (b - 48)) u)) (here w)

range_goes : (key : Key) (vs : List Value) (z : ℤ) (w : World) → G w (world_after (in_range key vs z w))
range_goes key vs z w = either_go (is_in_range z) _ _ w (here w) (here w)

unsigned_goes : (key : Key) (vs : List Value) (p : Value) (s : Seen) (w : World) → G w (world_after (unsigned_from key vs p s w))
unsigned_goes key vs p s w =
    then_go w (digits_from (past w p) p s.at s.byte 0 w) _ (digits_go (past w p) p s.at s.byte 0 w) (λ n u. range_goes key vs (pos n) u)

signed_goes : (key : Key) (vs : List Value) (p : Value) (s : Seen) (w : World) → G w (world_after (signed_from key vs p s w))
signed_goes key vs p s w =
    then_go w (byte_read p (s.at + 1) w) _ (byte_goes p (s.at + 1) w) (λ b u.
    then_go u (digits_from (past u p) p (s.at + 1) b 0 u) _ (digits_go (past u p) p (s.at + 1) b 0 u) (λ n v. range_goes key vs (signed_value s.byte n) v))

atoi_goes : (key : Key) (vs : List Value) (p : Value) (w : World) → G w (world_after (atoi key vs p w))
atoi_goes key vs p w =
    then_go w (after_space (past w p) p 0 w) _ (space_goes (past w p) p 0 w) (λ s u.
    either_go (is_sign s.byte) _ _ u (signed_goes key vs p s u) (unsigned_goes key vs p s u))

exit_goes : (status : ℕ) (w : World) → G w (world_after (exit status w))
exit_goes status w = quiet (Work w.begun) w refl

-- where nothing changes behind an event
module _ (h : History) (still : (e : Event) (w : World) → happened h e w ≡ went (pass (Happens e) w)) where
  shown_goes : (bs : List ℕ) (w : World) → G w (world_after (shown h bs w))
  shown_goes [] w = here w
  shown_goes (b ∷ bs) w =
      then_go w (happened h (Out b) (tick w)) _ (subst (λ r. G w (world_after r)) (sym (still (Out b) (tick w))) (quiet_two (Work 1) (Happens (Out b)) w refl refl)) (λ x u. shown_goes bs u)

  pub printf_goes : (key : Key) (vs : List Value) (w : World) → G w (world_after (printf h key vs w))
  printf_goes key vs w =
      let g : Printed = record { key = key; args = vs } in
      then_go w (text_at (value_at vs 0) w) _ (text_goes (value_at vs 0) w) (λ format u.
      then_go u (formatted (length format + 1) g 1 format u) _ (formatted_goes (length format + 1) g 1 format u) (λ bs v.
      then_go v (shown h bs v) _ (shown_goes bs v) (λ x y. here y)))

  putchar_goes : (c : ℕ) (w : World) → G w (world_after (putchar h c w))
  putchar_goes c w = then_go w (shown h (c % 256 ∷ []) w) _ (shown_goes (c % 256 ∷ []) w) (λ x u. here u)

  puts_goes : (p : Value) (w : World) → G w (world_after (puts h p w))
  puts_goes p w =
      then_go w (text_at p w) _ (text_goes p w) (λ bs u. then_go u (shown h (bs ++ 10 ∷ []) u) _ (shown_goes (bs ++ 10 ∷ []) u) (λ x v. here v))

  fail_goes : (text file : Value) (line : ℕ) (w : World) → G w (world_after (assert_fail h text file line w))
  fail_goes text file line w =
      then_go w (text_at text w) _ (text_goes text w) (λ t u. then_go u (text_at file u) _ (text_goes file u) (λ f v.
      let bs : List ℕ = assertion_text t f (number_of PlainInt line) in
      then_go v (shown h bs v) _ (shown_goes bs v) (λ x y. exit_goes 134 y)))

  pub library_goes : (f : LibFun) (key : Key) (vs : List Value) (w : World) → G w (world_after (library_call h f key vs w))
  library_goes lib.Putchar key vs w = putchar_goes (bits (value_at vs 0)) w
  library_goes lib.Puts key vs w = puts_goes (value_at vs 0) w
  library_goes lib.Printf key vs w = printf_goes key vs w
  library_goes lib.Getchar key vs w = got_goes w.input w
  library_goes lib.Malloc key vs w = malloc_goes (bits (value_at vs 0)) w
  library_goes lib.Calloc key vs w = calloc_goes (bits (value_at vs 0)) (bits (value_at vs 1)) w
  library_goes lib.Realloc key vs w = realloc_goes (value_at vs 0) (bits (value_at vs 1)) w
  library_goes lib.Free key vs w = free_goes (value_at vs 0) w
  library_goes lib.Memcpy key vs w = memcpy_goes (value_at vs 0) (value_at vs 1) (bits (value_at vs 2)) w
  library_goes lib.Memmove key vs w = memmove_goes (value_at vs 0) (value_at vs 1) (bits (value_at vs 2)) w
  library_goes lib.Memset key vs w = memset_goes (value_at vs 0) (bits (value_at vs 1)) (bits (value_at vs 2)) w
  library_goes lib.Memcmp key vs w = compared_goes (bits (value_at vs 2)) false (value_at vs 0) (value_at vs 1) 0 w
  library_goes lib.Strlen key vs w = strlen_goes (value_at vs 0) w
  library_goes lib.Strcpy key vs w = strcpy_goes (value_at vs 0) (value_at vs 1) w
  library_goes lib.Strncpy key vs w = strncpy_goes (value_at vs 0) (value_at vs 1) (bits (value_at vs 2)) w
  library_goes lib.Strcat key vs w = strcat_goes (value_at vs 0) (value_at vs 1) w
  library_goes lib.Strcmp key vs w = compared_goes (past w (value_at vs 0)) true (value_at vs 0) (value_at vs 1) 0 w
  library_goes lib.Strncmp key vs w = compared_goes (bits (value_at vs 2)) true (value_at vs 0) (value_at vs 1) 0 w
  library_goes lib.Strchr key vs w = first_goes (past w (value_at vs 0)) (value_at vs 0) (bits (value_at vs 1) % 256) 0 w
  library_goes lib.Strrchr key vs w = last_goes (past w (value_at vs 0)) (value_at vs 0) (bits (value_at vs 1) % 256) 0 null w
  library_goes lib.Atoi key vs w = atoi_goes key vs (value_at vs 0) w
  library_goes lib.Abs key vs w = range_goes key vs (pos (nat_abs (number_of PlainInt (bits (value_at vs 0))))) w
  library_goes lib.Rand key vs w = quiet (Seed (next_seed w.seed)) w refl
  library_goes lib.Srand key vs w = quiet (Seed (bits (value_at vs 0))) w refl
  library_goes lib.Exit key vs w = exit_goes (bits (value_at vs 0)) w
  library_goes lib.Isalnum key vs w = character_goes key vs (in_class is_alnum) w
  library_goes lib.Isalpha key vs w = character_goes key vs (in_class is_alpha) w
  library_goes lib.Iscntrl key vs w = character_goes key vs (in_class is_cntrl) w
  library_goes lib.Isdigit key vs w = character_goes key vs (in_class is_digit) w
  library_goes lib.Isgraph key vs w = character_goes key vs (in_class is_graph) w
  library_goes lib.Islower key vs w = character_goes key vs (in_class is_lower) w
  library_goes lib.Isprint key vs w = character_goes key vs (in_class is_print) w
  library_goes lib.Ispunct key vs w = character_goes key vs (in_class is_punct) w
  library_goes lib.Isspace key vs w = character_goes key vs (in_class is_space) w
  library_goes lib.Isupper key vs w = character_goes key vs (in_class is_upper) w
  library_goes lib.Isxdigit key vs w = character_goes key vs (in_class is_xdigit) w
  library_goes lib.Tolower key vs w = character_goes key vs lower w
  library_goes lib.Toupper key vs w = character_goes key vs upper w
  library_goes lib.AssertFail key vs w = fail_goes (value_at vs 0) (value_at vs 1) (bits (value_at vs 2)) w
