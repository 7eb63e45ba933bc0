-- The library's functions are related.
use Rattle.sc_meaning.specs.Changes.{happened}
use Rattle.std.proofs.Common.{◌≡◌, refl, ℕ, zero, suc, ◌+◌, ◌-◌, ◌*◌, ◌^◌, ◌==◌, ◌%◌, ◌&&◌, ◌||◌, Bool, true, false, not, min, nat_le, if◌then◌else◌, List, [], ◌∷◌, ◌++◌, length, replicate, Option, Some, None, ℤ, pos, nat_abs}
use Rattle.sc_base.specs.declared.key.Key.{Key}
use Rattle.sc_base.specs.declared.integer.Int.TheVariants.{Int as PlainInt}
use Rattle.sc_fmt.specs.Format.{is_digit}
use Rattle.sc_fmt.specs.Classes.{is_alpha, is_alnum, is_upper, is_lower, is_xdigit, is_space, is_print, is_graph, is_punct, is_cntrl}
use Rattle.sc_ops.specs.Numbers.{number_of, is_in_range}
use Rattle.sc_meaning.specs.declared.library.LibFun.{LibFun}
use Rattle.sc_meaning.specs.declared.library.LibFun.TheVariants as lib
use Rattle.sc_meaning.specs.Values.{Value, Number, FunctionAt, Pointer, Byte, null}
use Rattle.sc_meaning.specs.World.{World, pass, Work, Put, Read, Seed}
use Rattle.sc_meaning.specs.Outcomes.{moved}
use Rattle.sc_meaning.specs.Violations.{bits, is_null, reach_rule, write_rule}
use Rattle.sc_meaning.specs.Accesses.{copy_at}
use Rattle.sc_meaning.specs.Versions.{History}
use Rattle.sc_meaning.specs.Expressions.{Plain, Nothing}
use Rattle.sc_meaning.specs.Library.{value_at, byte_read, text_upto, past, text_at, bytes_written, apart, shown, taken, given_back, block_size_at}
use Rattle.sc_meaning.specs.Functions.{is_character, on_character, in_class, lower, upper, putchar, puts, got, malloc, zeroed, calloc, free, enlarged, reallocated, realloc, copied_bytes, memmove, memcpy, set_all, memset, bytes_compared, text_written, strcpy, strcat, read_count, strncpy, strlen, first_found, last_found, Seen, after_space, digits_from, is_sign, signed_value, in_range, unsigned_from, signed_from, atoi, next_seed, exit, assertion_text, assert_fail, library_call}
use Rattle.sc_meaning.specs.World.{Frame, Event}
use Rattle.sc_compiled_frames.specs.Kept.{Kept, Leaves}
use Rattle.sc_compiled_frames.proofs.Steps.{is_quiet_event, here, on, one_more, and_more, done, then_go, same_done, passes, passes_two, unless_goes, unless_then, either_goes, over}
use Rattle.sc_compiled_frames.proofs.Leaves.{copy_leads}
use Rattle.sc_compiled_frames.proofs.LibraryGo.{back_leads, gives_goes, range_goes, byte_goes, upto_goes, text_goes, written_goes, apart_goes, taken_goes, shown_goes, printf_goes}
use Rattle.sc_meaning.specs.Outcomes.{Done, went}
use Rattle.sc_meaning.specs.Violations.{free_rule}
use Rattle.sc_meaning.specs.Library.{block_breach}
use Rattle.sc_meaning.proofs.Objects.{leads_keep}
use Rattle.sc_meaning.proofs.Leaves.{copy_leads as copy_led}
use Rattle.sc_meaning.proofs.LibraryGo.{taken_goes as taken_led}
use Rattle.sc_meaning.proofs.Growing.{Going}
use Rattle.sc_compiled_frames.proofs.LibraryGo.{BlockAt, block_on, block_at}
use Rattle.sc_compiled_frames.proofs.Steps.{then_led}
use Rattle.sc_compiled_frames.proofs.Proper.{replicate_proper}

module _ (R : List Frame → List Frame) where
  set_leads : (p : Value) (c n : ℕ) (w : World) → Kept R w (set_all p c n w)
  set_leads (Number m) c n w = here R w
  set_leads (FunctionAt k) c n w = here R w
  set_leads (Pointer o i) c n w = and_more R (Work n) refl w (pass (Put o i (replicate n (Byte (c % 256)))) w) (one_more R (Put o i (replicate n (Byte (c % 256)))) (replicate_proper n (Byte (c % 256)) refl) w)

  character_goes : (key : Key) (vs : List Value) (f : ℕ → ℕ) (w : World) → Leaves R w (on_character key vs f w)
  character_goes key vs f w = either_goes R (is_character (bits (value_at vs 0))) _ _ w (gives_goes R _ w) (range_goes R key vs 1 w)

  got_goes : (bs : List ℕ) (w : World) → Leaves R w (got bs w)
  got_goes [] w = gives_goes R _ w
  got_goes (b ∷ bs) w = passes_two R _ Read refl (Work 1) refl w

  malloc_goes : (n : ℕ) (w : World) → Leaves R w (malloc n w)
  malloc_goes n w = either_goes R (n == 0) _ _ w (gives_goes R null w) (then_go R w (taken n w) _ (taken_goes R n w) (λ o u. gives_goes R _ u))

  zeroed_goes : (n : ℕ) (o : Option ℕ) (w : World) → Leaves R w (zeroed n o w)
  zeroed_goes n None w = gives_goes R null w
  zeroed_goes n (Some o) w = passes_two R _ (Put o 0 (replicate n (Byte 0))) (replicate_proper n (Byte 0) refl) (Work n) refl w

  calloc_goes : (n m : ℕ) (w : World) → Leaves R w (calloc n m w)
  calloc_goes n m w =
      either_goes R (n * m == 0 || nat_le (2 ^ 32) (n * m)) _ _ w (gives_goes R null w) (then_go R w (taken (n * m) w) _ (taken_goes R (n * m) w) (zeroed_goes (n * m)))

  free_goes : (p : Value) (w : World) → Leaves R w (free p w)
  free_goes p w =
      either_goes R (is_null p) _ _ w (same_done R Nothing w) (unless_then R (free_rule w.objects p) (block_breach p w) went (λ _ w. Done Nothing (given_back p w)) w (λ e.
      done R Nothing w (given_back p w) (back_leads R p w (block_at w.objects p e))))

  enlarged_goes : (p : Value) (n : ℕ) (o : Option ℕ) (w : World) → BlockAt w.objects p → Leaves R w (enlarged p n o w)
  enlarged_goes p n None w b = gives_goes R null w
  enlarged_goes p n (Some o) w b =
      let both : ℕ = min n (block_size_at w p) in
      let v : World = copy_at (Pointer o 0) 0 p 0 both w in
      let u : World = pass (Work (2 * both)) v in
      done R (Plain (Pointer o 0)) w (given_back p u) (on R w u (given_back p u) (and_more R (Work (2 * both)) refl w v (copy_leads R (Pointer o 0) 0 p 0 both w))
      (back_leads R p u (block_on w.objects u.objects p (leads_keep w v (copy_led (Pointer o 0) 0 p 0 both w)) b)))

  reallocated_goes : (p : Value) (n : ℕ) (w : World) → BlockAt w.objects p → Leaves R w (reallocated p n w)
  reallocated_goes p n w b =
      either_goes R (n == 0) _ _ w (done R (Plain null) w (given_back p w) (back_leads R p w b)) (then_led R w (taken n w) (enlarged p n) (taken_goes R n w) (taken_led Going n w) (λ o u l.
      enlarged_goes p n o u (block_on w.objects u.objects p (leads_keep w u l) b)))

  realloc_goes : (p : Value) (n : ℕ) (w : World) → Leaves R w (realloc p n w)
  realloc_goes p n w =
      either_goes R (is_null p) _ _ w (malloc_goes n w) (unless_then R (free_rule w.objects p) (block_breach p w) went (λ _ w. reallocated p n w) w (λ e. reallocated_goes p n w (block_at w.objects p e)))

  copied_goes : (to from : Value) (n : ℕ) (w : World) → Leaves R w (copied_bytes to from n w)
  copied_goes to from n w =
      unless_goes R (write_rule w.objects to 0 n) _ _ w (done R (Plain to) w (pass (Work (2 * n)) (copy_at to 0 from 0 n w)) (and_more R (Work (2 * n)) refl w (copy_at to 0 from 0 n w) (copy_leads R to 0 from 0 n w)))

  memmove_goes : (to from : Value) (n : ℕ) (w : World) → Leaves R w (memmove to from n w)
  memmove_goes to from n w =
      either_goes R (n == 0) _ _ w (gives_goes R to w) (unless_goes R (reach_rule w.objects from 0 n) _ _ w (copied_goes to from n w))

  memcpy_goes : (to from : Value) (n : ℕ) (w : World) → Leaves R w (memcpy to from n w)
  memcpy_goes to from n w =
      either_goes R (n == 0) _ _ w (gives_goes R to w) (unless_goes R (reach_rule w.objects from 0 n) _ _ w (then_go R w (apart to n from n w) _ (apart_goes R to n from n w) (λ x u. copied_goes to from n u)))

  memset_goes : (p : Value) (c n : ℕ) (w : World) → Leaves R w (memset p c n w)
  memset_goes p c n w =
      either_goes R (n == 0) _ _ w (gives_goes R p w) (unless_goes R (write_rule w.objects p 0 n) _ _ w (done R (Plain p) w (set_all p c n w) (set_leads p c n w)))

  compared_goes : (n : ℕ) (z : Bool) (p q : Value) (i : ℕ) (w : World) → Leaves R w (bytes_compared n z p q i w)
  compared_goes zero z p q i w = gives_goes R null w
  compared_goes (suc n) z p q i w =
      then_go R w (byte_read p i w) _ (byte_goes R p i w) (λ a u. then_go R u (byte_read q i u) _ (byte_goes R q i u) (λ b v.
      either_goes R (not (a == b) || z && a == 0) _ _ v (gives_goes R _ v) (compared_goes n z p q (i + 1) v)))

  target_goes : (to : Value) (at : ℕ) (from : Value) (bs : List ℕ) (w : World) → Leaves R w (text_written to at from bs w)
  target_goes to at from bs w =
      then_go R w (apart (moved to at) (length bs) from (length bs) w) _ (apart_goes R (moved to at) (length bs) from (length bs) w) (λ x u.
      then_go R u (bytes_written to at bs u) _ (written_goes R to at bs u) (λ y v. gives_goes R to v))

  strcpy_goes : (to from : Value) (w : World) → Leaves R w (strcpy to from w)
  strcpy_goes to from w = then_go R w (text_at from w) _ (text_goes R from w) (λ bs u. target_goes to 0 from (bs ++ 0 ∷ []) u)

  strcat_goes : (to from : Value) (w : World) → Leaves R w (strcat to from w)
  strcat_goes to from w =
      then_go R w (text_at from w) _ (text_goes R from w) (λ bs u. then_go R u (text_at to u) _ (text_goes R to u) (λ old v. target_goes to (length old) from (bs ++ 0 ∷ []) v))

  strncpy_goes : (to from : Value) (n : ℕ) (w : World) → Leaves R w (strncpy to from n w)
  strncpy_goes to from n w =
      either_goes R (n == 0) _ _ w (gives_goes R to w) (then_go R w (text_upto n from 0 w) _ (upto_goes R n from 0 w) (λ bs u.
      then_go R u (apart to n from (read_count n bs) u) _ (apart_goes R to n from (read_count n bs) u) (λ x v.
      let all : List ℕ = bs ++ replicate (n - length bs) 0 in
      then_go R v (bytes_written to 0 all v) _ (written_goes R to 0 all v) (λ y z. gives_goes R to z))))

  strlen_goes : (p : Value) (w : World) → Leaves R w (strlen p w)
  strlen_goes p w = then_go R w (text_at p w) _ (text_goes R p w) (λ bs u. gives_goes R _ u)

  first_goes : (n : ℕ) (p : Value) (c i : ℕ) (w : World) → Leaves R w (first_found n p c i w)
  first_goes zero p c i w = gives_goes R null w
  first_goes (suc n) p c i w =
      then_go R w (byte_read p i w) _ (byte_goes R p i w) (λ b u.
      either_goes R (b == c) _ _ u (gives_goes R _ u) (either_goes R (b == 0) _ _ u (gives_goes R null u) (first_goes n p c (i + 1) u)))

  last_goes : (n : ℕ) (p : Value) (c i : ℕ) (found : Value) (w : World) → Leaves R w (last_found n p c i found w)
  last_goes zero p c i found w = gives_goes R found w
  last_goes (suc n) p c i found w =
      then_go R w (byte_read p i w) _ (byte_goes R p i w) (λ b u.
      let now : Value = if b == c then moved p i else found in
      either_goes R (b == 0) _ _ u (gives_goes R now u) (last_goes n p c (i + 1) now u))

  space_goes : (n : ℕ) (p : Value) (i : ℕ) (w : World) → Leaves R w (after_space n p i w)
  space_goes zero p i w = same_done R _ w
  space_goes (suc n) p i w =
      then_go R w (byte_read p i w) _ (byte_goes R p i w) (λ b u. either_goes R (is_space b) _ _ u (space_goes n p (i + 1) u) (same_done R _ u))

  digits_go : (n : ℕ) (p : Value) (i b sum : ℕ) (w : World) → Leaves R w (digits_from n p i b sum w)
  digits_go zero p i b sum w = same_done R sum w
  digits_go (suc n) p i b sum w =
      either_goes R (is_digit b) _ _ w (then_go R w (byte_read p (i + 1) w) _ (byte_goes R p (i + 1) w) (λ c u. digits_go n p (i + 1) c (sum * 10 + (b - 48)) u)) (same_done R sum w)

  in_goes : (key : Key) (vs : List Value) (z : ℤ) (w : World) → Leaves R w (in_range key vs z w)
  in_goes key vs z w = either_goes R (is_in_range z) _ _ w (gives_goes R _ w) (range_goes R key vs 1 w)

  unsigned_goes : (key : Key) (vs : List Value) (p : Value) (s : Seen) (w : World) → Leaves R w (unsigned_from key vs p s w)
  unsigned_goes key vs p s w =
      then_go R w (digits_from (past w p) p s.at s.byte 0 w) _ (digits_go (past w p) p s.at s.byte 0 w) (λ n u. in_goes key vs (pos n) u)

  signed_goes : (key : Key) (vs : List Value) (p : Value) (s : Seen) (w : World) → Leaves R w (signed_from key vs p s w)
  signed_goes key vs p s w =
      then_go R w (byte_read p (s.at + 1) w) _ (byte_goes R p (s.at + 1) w) (λ b u.
      then_go R u (digits_from (past u p) p (s.at + 1) b 0 u) _ (digits_go (past u p) p (s.at + 1) b 0 u) (λ n v. in_goes key vs (signed_value s.byte n) v))

  atoi_goes : (key : Key) (vs : List Value) (p : Value) (w : World) → Leaves R w (atoi key vs p w)
  atoi_goes key vs p w =
      then_go R w (after_space (past w p) p 0 w) _ (space_goes (past w p) p 0 w) (λ s u.
      either_goes R (is_sign s.byte) _ _ u (signed_goes key vs p s u) (unsigned_goes key vs p s u))

  exit_goes : (status : ℕ) (w : World) → Leaves R w (exit status w)
  exit_goes status w = over R w _

module _ (R : List Frame → List Frame) (h : History) (H : (e : Event) → is_quiet_event e ≡ true → (w : World) → Leaves R w (happened h e w)) where
  putchar_goes : (c : ℕ) (w : World) → Leaves R w (putchar h c w)
  putchar_goes c w = then_go R w (shown h (c % 256 ∷ []) w) _ (shown_goes R h H (c % 256 ∷ []) w) (λ x u. gives_goes R _ u)

  puts_goes : (p : Value) (w : World) → Leaves R w (puts h p w)
  puts_goes p w =
      then_go R w (text_at p w) _ (text_goes R p w) (λ bs u. then_go R u (shown h (bs ++ 10 ∷ []) u) _ (shown_goes R h H (bs ++ 10 ∷ []) u) (λ x v. gives_goes R null v))

  fail_goes : (text file : Value) (line : ℕ) (w : World) → Leaves R w (assert_fail h text file line w)
  fail_goes text file line w =
      then_go R w (text_at text w) _ (text_goes R text w) (λ t u. then_go R u (text_at file u) _ (text_goes R file u) (λ f v.
      let bs : List ℕ = assertion_text t f (number_of PlainInt line) in
      then_go R v (shown h bs v) _ (shown_goes R h H bs v) (λ x y. exit_goes R 134 y)))

  pub library_goes : (f : LibFun) (key : Key) (vs : List Value) (w : World) → Leaves R w (library_call h f key vs w)
  library_goes lib.Putchar key vs w = putchar_goes (bits (value_at vs 0)) w
  library_goes lib.Puts key vs w = puts_goes (value_at vs 0) w
  library_goes lib.Printf key vs w = printf_goes R h H key vs w
  library_goes lib.Getchar key vs w = got_goes R w.input w
  library_goes lib.Malloc key vs w = malloc_goes R (bits (value_at vs 0)) w
  library_goes lib.Calloc key vs w = calloc_goes R (bits (value_at vs 0)) (bits (value_at vs 1)) w
  library_goes lib.Realloc key vs w = realloc_goes R (value_at vs 0) (bits (value_at vs 1)) w
  library_goes lib.Free key vs w = free_goes R (value_at vs 0) w
  library_goes lib.Memcpy key vs w = memcpy_goes R (value_at vs 0) (value_at vs 1) (bits (value_at vs 2)) w
  library_goes lib.Memmove key vs w = memmove_goes R (value_at vs 0) (value_at vs 1) (bits (value_at vs 2)) w
  library_goes lib.Memset key vs w = memset_goes R (value_at vs 0) (bits (value_at vs 1)) (bits (value_at vs 2)) w
  library_goes lib.Memcmp key vs w = compared_goes R (bits (value_at vs 2)) false (value_at vs 0) (value_at vs 1) 0 w
  library_goes lib.Strlen key vs w = strlen_goes R (value_at vs 0) w
  library_goes lib.Strcpy key vs w = strcpy_goes R (value_at vs 0) (value_at vs 1) w
  library_goes lib.Strncpy key vs w = strncpy_goes R (value_at vs 0) (value_at vs 1) (bits (value_at vs 2)) w
  library_goes lib.Strcat key vs w = strcat_goes R (value_at vs 0) (value_at vs 1) w
  library_goes lib.Strcmp key vs w = compared_goes R (past w (value_at vs 0)) true (value_at vs 0) (value_at vs 1) 0 w
  library_goes lib.Strncmp key vs w = compared_goes R (bits (value_at vs 2)) true (value_at vs 0) (value_at vs 1) 0 w
  library_goes lib.Strchr key vs w = first_goes R (past w (value_at vs 0)) (value_at vs 0) (bits (value_at vs 1) % 256) 0 w
  library_goes lib.Strrchr key vs w = last_goes R (past w (value_at vs 0)) (value_at vs 0) (bits (value_at vs 1) % 256) 0 null w
  library_goes lib.Atoi key vs w = atoi_goes R key vs (value_at vs 0) w
  library_goes lib.Abs key vs w = in_goes R key vs (pos (nat_abs (number_of PlainInt (bits (value_at vs 0))))) w
  library_goes lib.Rand key vs w = passes R _ (Seed (next_seed w.seed)) refl w
  library_goes lib.Srand key vs w = passes R Nothing (Seed (bits (value_at vs 0))) refl w
  library_goes lib.Exit key vs w = exit_goes R (bits (value_at vs 0)) w
  library_goes lib.Isalnum key vs w = character_goes R key vs (in_class is_alnum) w
  library_goes lib.Isalpha key vs w = character_goes R key vs (in_class is_alpha) w
  library_goes lib.Iscntrl key vs w = character_goes R key vs (in_class is_cntrl) w
  library_goes lib.Isdigit key vs w = character_goes R key vs (in_class is_digit) w
  library_goes lib.Isgraph key vs w = character_goes R key vs (in_class is_graph) w
  library_goes lib.Islower key vs w = character_goes R key vs (in_class is_lower) w
  library_goes lib.Isprint key vs w = character_goes R key vs (in_class is_print) w
  library_goes lib.Ispunct key vs w = character_goes R key vs (in_class is_punct) w
  library_goes lib.Isspace key vs w = character_goes R key vs (in_class is_space) w
  library_goes lib.Isupper key vs w = character_goes R key vs (in_class is_upper) w
  library_goes lib.Isxdigit key vs w = character_goes R key vs (in_class is_xdigit) w
  library_goes lib.Tolower key vs w = character_goes R key vs lower w
  library_goes lib.Toupper key vs w = character_goes R key vs upper w
  library_goes lib.AssertFail key vs w = fail_goes (value_at vs 0) (value_at vs 1) (bits (value_at vs 2)) w
