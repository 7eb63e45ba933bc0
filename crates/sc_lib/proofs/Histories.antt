-- A run in which nothing changes behind an event goes as one without versions, inside the library.
use Rattle.std.proofs.Common.{◌≡◌, ℕ, ◌+◌, ◌%◌, List, [], ◌∷◌, ◌++◌, length, refl, ap, ◌∙◌}
use Rattle.sc_base.specs.declared.integer.Int.TheVariants.{Int as PlainInt}
use Rattle.sc_base.specs.declared.key.Key.{Key}
use Rattle.sc_ops.specs.Numbers.{number_of}
use Rattle.sc_meaning.specs.declared.library.LibFun.{LibFun}
use Rattle.sc_meaning.specs.declared.library.LibFun.TheVariants as lib
use Rattle.sc_meaning.specs.Values.{Value, Number, null}
use Rattle.sc_meaning.specs.World.{World, Out, Happens, pass, tick}
use Rattle.sc_meaning.specs.Outcomes.{Outcome, Done, Over, and_then}
use Rattle.sc_meaning.specs.Violations.{bits}
use Rattle.sc_meaning.specs.Versions.{History}
use Rattle.sc_meaning.specs.Expressions.{Answer}
use Rattle.sc_meaning.specs.Library.{shown, gives, value_at, text_at}
use Rattle.sc_meaning.specs.Printf.{printf, formatted}
use Rattle.sc_meaning.specs.Functions.{putchar, puts, assertion_text, assert_fail, exit, library_call}
use Rattle.sc_lib.specs.Quiet.{IsQuiet}

quiet_shown : (h : History) → IsQuiet h → (bs : List ℕ) (w : World) → shown h bs w ≡ shown [] bs w
quiet_shown h q [] w = refl
quiet_shown h q (b ∷ bs) w =
    ap (λ (o : Outcome (Unit {0})). and_then o (λ _ w. shown h bs w)) (q (Out b) (tick w)) ∙ quiet_shown h q bs (pass (Happens (Out b)) (tick w))

quiet_putchar : (h : History) → IsQuiet h → (c : ℕ) (w : World) → putchar h c w ≡ putchar [] c w
quiet_putchar h q c w = ap (λ (o : Outcome (Unit {0})). and_then o (λ _ w. gives (Number (c % 256)) w)) (quiet_shown h q (c % 256 ∷ []) w)

-- a text that is there goes to the output, and what follows
text_shown : (h : History) → IsQuiet h → (f : List ℕ → List ℕ) (next : List ℕ → World → Outcome Answer) (r : Outcome (List ℕ)) → and_then r (λ bs w. and_then (shown h (f bs) w) (λ _ w. next bs w)) ≡ and_then r (λ bs w. and_then (shown [] (f bs) w) (λ _ w. next bs w))
text_shown h q f next (Done bs w) = ap (λ (o : Outcome (Unit {0})). and_then o (λ _ w. next bs w)) (quiet_shown h q (f bs) w)
text_shown h q f next (Over e) = refl

quiet_puts : (h : History) → IsQuiet h → (p : Value) (w : World) → puts h p w ≡ puts [] p w
quiet_puts h q p w = text_shown h q (λ bs. bs ++ 10 ∷ []) (λ bs. gives null) (text_at p w)

format_shown : (h : History) → IsQuiet h → (key : Key) (vs : List Value) (r : Outcome (List ℕ)) → and_then r (λ format w. and_then (formatted (length format + 1) (record { key = key; args = vs }) 1 format w) (λ bs w. and_then (shown h bs w) (λ _ w. gives (Number (length bs)) w))) ≡ and_then r (λ format w. and_then (formatted (length format + 1) (record { key = key; args = vs }) 1 format w) (λ bs w. and_then (shown [] bs w) (λ _ w. gives (Number (length bs)) w)))
format_shown h q key vs (Done format w) = text_shown h q (λ bs. bs) (λ bs. gives (Number (length bs))) (formatted (length format + 1) (record { key = key; args = vs }) 1 format w)
format_shown h q key vs (Over e) = refl

quiet_printf : (h : History) → IsQuiet h → (key : Key) (vs : List Value) (w : World) → printf h key vs w ≡ printf [] key vs w
quiet_printf h q key vs w = format_shown h q key vs (text_at (value_at vs 0) w)

file_shown : (h : History) → IsQuiet h → (file : Value) (line : ℕ) (r : Outcome (List ℕ)) → and_then r (λ t w. and_then (text_at file w) (λ f w. and_then (shown h (assertion_text t f (number_of PlainInt line)) w) (λ _ w. exit 134 w))) ≡ and_then r (λ t w. and_then (text_at file w) (λ f w. and_then (shown [] (assertion_text t f (number_of PlainInt line)) w) (λ _ w. exit 134 w)))
file_shown h q file line (Done t w) = text_shown h q (λ f. assertion_text t f (number_of PlainInt line)) (λ f. exit 134) (text_at file w)
file_shown h q file line (Over e) = refl

quiet_assertion : (h : History) → IsQuiet h → (text file : Value) (line : ℕ) (w : World) → assert_fail h text file line w ≡ assert_fail [] text file line w
quiet_assertion h q text file line w = file_shown h q file line (text_at text w)

pub quiet_library : (h : History) → IsQuiet h → (f : LibFun) (key : Key) (vs : List Value) (w : World) → library_call h f key vs w ≡ library_call [] f key vs w
quiet_library h q lib.Putchar key vs w = quiet_putchar h q (bits (value_at vs 0)) w
quiet_library h q lib.Puts key vs w = quiet_puts h q (value_at vs 0) w
quiet_library h q lib.Printf key vs w = quiet_printf h q key vs w
quiet_library h q lib.Getchar key vs w = refl
quiet_library h q lib.Malloc key vs w = refl
quiet_library h q lib.Calloc key vs w = refl
quiet_library h q lib.Realloc key vs w = refl
quiet_library h q lib.Free key vs w = refl
quiet_library h q lib.Memcpy key vs w = refl
quiet_library h q lib.Memmove key vs w = refl
quiet_library h q lib.Memset key vs w = refl
quiet_library h q lib.Memcmp key vs w = refl
quiet_library h q lib.Strlen key vs w = refl
quiet_library h q lib.Strcpy key vs w = refl
quiet_library h q lib.Strncpy key vs w = refl
quiet_library h q lib.Strcat key vs w = refl
quiet_library h q lib.Strcmp key vs w = refl
quiet_library h q lib.Strncmp key vs w = refl
quiet_library h q lib.Strchr key vs w = refl
quiet_library h q lib.Strrchr key vs w = refl
quiet_library h q lib.Atoi key vs w = refl
quiet_library h q lib.Abs key vs w = refl
quiet_library h q lib.Rand key vs w = refl
quiet_library h q lib.Srand key vs w = refl
quiet_library h q lib.Exit key vs w = refl
quiet_library h q lib.Isalnum key vs w = refl
quiet_library h q lib.Isalpha key vs w = refl
quiet_library h q lib.Iscntrl key vs w = refl
quiet_library h q lib.Isdigit key vs w = refl
quiet_library h q lib.Isgraph key vs w = refl
quiet_library h q lib.Islower key vs w = refl
quiet_library h q lib.Isprint key vs w = refl
quiet_library h q lib.Ispunct key vs w = refl
quiet_library h q lib.Isspace key vs w = refl
quiet_library h q lib.Isupper key vs w = refl
quiet_library h q lib.Isxdigit key vs w = refl
quiet_library h q lib.Tolower key vs w = refl
quiet_library h q lib.Toupper key vs w = refl
quiet_library h q lib.AssertFail key vs w = quiet_assertion h q (value_at vs 0) (value_at vs 1) (bits (value_at vs 2)) w
