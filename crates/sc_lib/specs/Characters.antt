-- Inside: plumbing, a representation, an invariant or a promise beside the claim (docs/TRUST.md).
-- The functions on characters (ANSI 4.3), as functions of numbers.
use Rattle.std.specs.Prelude.{ℕ}
use Rattle.sc_fmt.specs.Format.{is_digit}
use Rattle.sc_fmt.specs.Classes.{is_upper, is_lower, is_alpha, is_alnum, is_xdigit, is_space, is_print, is_graph, is_punct, is_cntrl}
use Rattle.sc_meaning.specs.declared.library.LibFun.{LibFun}
use Rattle.sc_meaning.specs.declared.library.LibFun.TheVariants as lib
use Rattle.sc_meaning.specs.Functions.{in_class, lower, upper}

-- the value of a function for a character; every other function has none, which counts as 0
abbrev pub value_of : LibFun → ℕ → ℕ
value_of lib.Isalnum c = in_class is_alnum c
value_of lib.Isalpha c = in_class is_alpha c
value_of lib.Iscntrl c = in_class is_cntrl c
value_of lib.Isdigit c = in_class is_digit c
value_of lib.Isgraph c = in_class is_graph c
value_of lib.Islower c = in_class is_lower c
value_of lib.Isprint c = in_class is_print c
value_of lib.Ispunct c = in_class is_punct c
value_of lib.Isspace c = in_class is_space c
value_of lib.Isupper c = in_class is_upper c
value_of lib.Isxdigit c = in_class is_xdigit c
value_of lib.Tolower c = lower c
value_of lib.Toupper c = upper c
value_of _ c = 0
