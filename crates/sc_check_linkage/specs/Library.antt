-- Yardstick: to be compared with what it restates (docs/TRUST.md).
-- The names of the library's functions (ANSI 4), and one name that an assertion calls.
use Rattle.std.specs.Prelude.{ℕ, Bool, List, [], ◌∷◌, codes}
use Rattle.std.specs.List.{list_any}
use Rattle.std.specs.Str.{bytes_eq}

abbrev pub library : List (List ℕ)
library =
    codes "putchar" ∷ codes "puts" ∷ codes "printf" ∷ codes "getchar" ∷ codes "malloc" ∷ codes "calloc" ∷ codes "realloc"
    ∷ codes "free" ∷ codes "memcpy" ∷ codes "memmove" ∷ codes "memset" ∷ codes "memcmp" ∷ codes "strlen" ∷ codes "strcpy"
    ∷ codes "strncpy" ∷ codes "strcat" ∷ codes "strcmp" ∷ codes "strncmp" ∷ codes "strchr" ∷ codes "strrchr" ∷ codes "atoi"
    ∷ codes "abs" ∷ codes "rand" ∷ codes "srand" ∷ codes "exit" ∷ codes "isalnum" ∷ codes "isalpha" ∷ codes "iscntrl"
    ∷ codes "isdigit" ∷ codes "isgraph" ∷ codes "islower" ∷ codes "isprint" ∷ codes "ispunct" ∷ codes "isspace"
    ∷ codes "isupper" ∷ codes "isxdigit" ∷ codes "tolower" ∷ codes "toupper" ∷ codes "_assert_fail" ∷ []

abbrev pub is_among : List (List ℕ) → List ℕ → Bool
is_among names name = list_any (λ n. bytes_eq n name) names

abbrev pub is_library_name : List ℕ → Bool
is_library_name = is_among library
