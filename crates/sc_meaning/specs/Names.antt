-- Yardstick: to be compared with what it restates (docs/TRUST.md).
-- The names of the library's functions.
use Rattle.std.specs.Prelude.{ℕ, List, [], ◌∷◌, Option, Some, None, if◌then◌else◌}
use Rattle.std.specs.Str.{bytes_eq}
use Rattle.sc_meaning.specs.declared.library.LibFun.{LibFun}
use Rattle.sc_meaning.specs.declared.library.LibFun.TheVariants.{Putchar, Puts, Printf, Getchar, Malloc, Calloc, Realloc, Free, Memcpy, Memmove, Memset, Memcmp, Strlen, Strcpy, Strncpy, Strcat, Strcmp, Strncmp, Strchr, Strrchr, Atoi, Abs, Rand, Srand, Exit, Isalnum, Isalpha, Iscntrl, Isdigit, Isgraph, Islower, Isprint, Ispunct, Isspace, Isupper, Isxdigit, Tolower, Toupper, AssertFail}

-- each function by the bytes of its name
abbrev pub library : List (List ℕ × LibFun)
library =
    (112 ∷ 117 ∷ 116 ∷ 99 ∷ 104 ∷ 97 ∷ 114 ∷ [], Putchar) ∷
    (112 ∷ 117 ∷ 116 ∷ 115 ∷ [], Puts) ∷
    (112 ∷ 114 ∷ 105 ∷ 110 ∷ 116 ∷ 102 ∷ [], Printf) ∷
    (103 ∷ 101 ∷ 116 ∷ 99 ∷ 104 ∷ 97 ∷ 114 ∷ [], Getchar) ∷
    (109 ∷ 97 ∷ 108 ∷ 108 ∷ 111 ∷ 99 ∷ [], Malloc) ∷
    (99 ∷ 97 ∷ 108 ∷ 108 ∷ 111 ∷ 99 ∷ [], Calloc) ∷
    (114 ∷ 101 ∷ 97 ∷ 108 ∷ 108 ∷ 111 ∷ 99 ∷ [], Realloc) ∷
    (102 ∷ 114 ∷ 101 ∷ 101 ∷ [], Free) ∷
    (109 ∷ 101 ∷ 109 ∷ 99 ∷ 112 ∷ 121 ∷ [], Memcpy) ∷
    (109 ∷ 101 ∷ 109 ∷ 109 ∷ 111 ∷ 118 ∷ 101 ∷ [], Memmove) ∷
    (109 ∷ 101 ∷ 109 ∷ 115 ∷ 101 ∷ 116 ∷ [], Memset) ∷
    (109 ∷ 101 ∷ 109 ∷ 99 ∷ 109 ∷ 112 ∷ [], Memcmp) ∷
    (115 ∷ 116 ∷ 114 ∷ 108 ∷ 101 ∷ 110 ∷ [], Strlen) ∷
    (115 ∷ 116 ∷ 114 ∷ 99 ∷ 112 ∷ 121 ∷ [], Strcpy) ∷
    (115 ∷ 116 ∷ 114 ∷ 110 ∷ 99 ∷ 112 ∷ 121 ∷ [], Strncpy) ∷
    (115 ∷ 116 ∷ 114 ∷ 99 ∷ 97 ∷ 116 ∷ [], Strcat) ∷
    (115 ∷ 116 ∷ 114 ∷ 99 ∷ 109 ∷ 112 ∷ [], Strcmp) ∷
    (115 ∷ 116 ∷ 114 ∷ 110 ∷ 99 ∷ 109 ∷ 112 ∷ [], Strncmp) ∷
    (115 ∷ 116 ∷ 114 ∷ 99 ∷ 104 ∷ 114 ∷ [], Strchr) ∷
    (115 ∷ 116 ∷ 114 ∷ 114 ∷ 99 ∷ 104 ∷ 114 ∷ [], Strrchr) ∷
    (97 ∷ 116 ∷ 111 ∷ 105 ∷ [], Atoi) ∷
    (97 ∷ 98 ∷ 115 ∷ [], Abs) ∷
    (114 ∷ 97 ∷ 110 ∷ 100 ∷ [], Rand) ∷
    (115 ∷ 114 ∷ 97 ∷ 110 ∷ 100 ∷ [], Srand) ∷
    (101 ∷ 120 ∷ 105 ∷ 116 ∷ [], Exit) ∷
    (105 ∷ 115 ∷ 97 ∷ 108 ∷ 110 ∷ 117 ∷ 109 ∷ [], Isalnum) ∷
    (105 ∷ 115 ∷ 97 ∷ 108 ∷ 112 ∷ 104 ∷ 97 ∷ [], Isalpha) ∷
    (105 ∷ 115 ∷ 99 ∷ 110 ∷ 116 ∷ 114 ∷ 108 ∷ [], Iscntrl) ∷
    (105 ∷ 115 ∷ 100 ∷ 105 ∷ 103 ∷ 105 ∷ 116 ∷ [], Isdigit) ∷
    (105 ∷ 115 ∷ 103 ∷ 114 ∷ 97 ∷ 112 ∷ 104 ∷ [], Isgraph) ∷
    (105 ∷ 115 ∷ 108 ∷ 111 ∷ 119 ∷ 101 ∷ 114 ∷ [], Islower) ∷
    (105 ∷ 115 ∷ 112 ∷ 114 ∷ 105 ∷ 110 ∷ 116 ∷ [], Isprint) ∷
    (105 ∷ 115 ∷ 112 ∷ 117 ∷ 110 ∷ 99 ∷ 116 ∷ [], Ispunct) ∷
    (105 ∷ 115 ∷ 115 ∷ 112 ∷ 97 ∷ 99 ∷ 101 ∷ [], Isspace) ∷
    (105 ∷ 115 ∷ 117 ∷ 112 ∷ 112 ∷ 101 ∷ 114 ∷ [], Isupper) ∷
    (105 ∷ 115 ∷ 120 ∷ 100 ∷ 105 ∷ 103 ∷ 105 ∷ 116 ∷ [], Isxdigit) ∷
    (116 ∷ 111 ∷ 108 ∷ 111 ∷ 119 ∷ 101 ∷ 114 ∷ [], Tolower) ∷
    (116 ∷ 111 ∷ 117 ∷ 112 ∷ 112 ∷ 101 ∷ 114 ∷ [], Toupper) ∷
    (95 ∷ 97 ∷ 115 ∷ 115 ∷ 101 ∷ 114 ∷ 116 ∷ 95 ∷ 102 ∷ 97 ∷ 105 ∷ 108 ∷ [], AssertFail) ∷
    []

abbrev pub named_fun : List (List ℕ × LibFun) → List ℕ → Option LibFun
named_fun [] name = None
named_fun (f ∷ fs) name = if bytes_eq f.0 name then Some f.1 else named_fun fs name

-- the function of the library that has this name
abbrev pub library_fun : List ℕ → Option LibFun
library_fun name = named_fun library name
