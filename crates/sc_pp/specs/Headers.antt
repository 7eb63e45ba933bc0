-- Yardstick: to be compared with what it restates (docs/TRUST.md).
-- The built-in headers (ANSI 4.1.2).
use Rattle.std.specs.Prelude.{ℕ, Bool, true, false, ◌||◌, not, if◌then◌else◌, List, ◌++◌, Option, Some, None, codes}
use Rattle.std.specs.List.{list_any}
use Rattle.std.specs.Str.{bytes_eq}
use Rattle.sc_pp.specs.declared.header.Header.{Header}
use Rattle.sc_pp.specs.declared.header.Header.TheVariants as header

abbrev pub header_named : List ℕ → Option Header
header_named name =
    if bytes_eq name (codes "stdio.h") then Some header.Stdio else
    if bytes_eq name (codes "stdlib.h") then Some header.Stdlib else
    if bytes_eq name (codes "string.h") then Some header.Strings else
    if bytes_eq name (codes "ctype.h") then Some header.Ctype else
    if bytes_eq name (codes "stddef.h") then Some header.Stddef else
    if bytes_eq name (codes "limits.h") then Some header.Limits else
    if bytes_eq name (codes "assert.h") then Some header.Assert else None

-- a line of a header that defines a name
abbrev pub defines : List ℕ → List ℕ → List ℕ
defines name value = codes "#define " ++ name ++ codes " " ++ value ++ codes "\n"

-- a line of a header that declares
abbrev pub declares : List ℕ → List ℕ
declares declaration = declaration ++ codes ";\n"

abbrev pub null : List ℕ
null = defines (codes "NULL") (codes "((void *)0)")

-- ANSI 4.9
abbrev pub stdio : List ℕ
stdio =
    null
    ++ defines (codes "EOF") (codes "(-1)")
    ++ declares (codes "int putchar(int)")
    ++ declares (codes "int puts(const char *)")
    ++ declares (codes "int printf(const char *)")
    ++ declares (codes "int getchar(void)")

-- ANSI 4.10; the greatest number that `rand` gives is 32767
abbrev pub stdlib : List ℕ
stdlib =
    null
    ++ defines (codes "RAND_MAX") (codes "32767")
    ++ defines (codes "EXIT_SUCCESS") (codes "0")
    ++ defines (codes "EXIT_FAILURE") (codes "1")
    ++ declares (codes "void *malloc(size_t)")
    ++ declares (codes "void *calloc(size_t, size_t)")
    ++ declares (codes "void *realloc(void *, size_t)")
    ++ declares (codes "void free(void *)")
    ++ declares (codes "int atoi(const char *)")
    ++ declares (codes "int abs(int)")
    ++ declares (codes "int rand(void)")
    ++ declares (codes "void srand(unsigned int)")
    ++ declares (codes "void exit(int)")

-- ANSI 4.11
abbrev pub strings : List ℕ
strings =
    null
    ++ declares (codes "void *memcpy(void *, const void *, size_t)")
    ++ declares (codes "void *memmove(void *, const void *, size_t)")
    ++ declares (codes "void *memset(void *, int, size_t)")
    ++ declares (codes "int memcmp(const void *, const void *, size_t)")
    ++ declares (codes "size_t strlen(const char *)")
    ++ declares (codes "char *strcpy(char *, const char *)")
    ++ declares (codes "char *strncpy(char *, const char *, size_t)")
    ++ declares (codes "char *strcat(char *, const char *)")
    ++ declares (codes "int strcmp(const char *, const char *)")
    ++ declares (codes "int strncmp(const char *, const char *, size_t)")
    ++ declares (codes "char *strchr(const char *, int)")
    ++ declares (codes "char *strrchr(const char *, int)")

-- ANSI 4.3
abbrev pub ctype : List ℕ
ctype =
    declares (codes "int isalnum(int)")
    ++ declares (codes "int isalpha(int)")
    ++ declares (codes "int iscntrl(int)")
    ++ declares (codes "int isdigit(int)")
    ++ declares (codes "int isgraph(int)")
    ++ declares (codes "int islower(int)")
    ++ declares (codes "int isprint(int)")
    ++ declares (codes "int ispunct(int)")
    ++ declares (codes "int isspace(int)")
    ++ declares (codes "int isupper(int)")
    ++ declares (codes "int isxdigit(int)")
    ++ declares (codes "int tolower(int)")
    ++ declares (codes "int toupper(int)")

-- ANSI 4.1.5
abbrev pub stddef : List ℕ
stddef =
    declares (codes "typedef int ptrdiff_t")
    ++ null
    ++ defines (codes "offsetof(t, m)") (codes "__offsetof(t, m)")

-- ANSI 2.2.4.2.1, for characters of 8 bits without sign, `short` of 16 bits, `int` and `long` of 32
abbrev pub limits : List ℕ
limits =
    defines (codes "CHAR_BIT") (codes "8")
    ++ defines (codes "SCHAR_MIN") (codes "(-128)")
    ++ defines (codes "SCHAR_MAX") (codes "127")
    ++ defines (codes "UCHAR_MAX") (codes "255")
    ++ defines (codes "CHAR_MIN") (codes "0")
    ++ defines (codes "CHAR_MAX") (codes "255")
    ++ defines (codes "SHRT_MIN") (codes "(-32768)")
    ++ defines (codes "SHRT_MAX") (codes "32767")
    ++ defines (codes "USHRT_MAX") (codes "65535")
    ++ defines (codes "INT_MIN") (codes "(-2147483647 - 1)")
    ++ defines (codes "INT_MAX") (codes "2147483647")
    ++ defines (codes "UINT_MAX") (codes "4294967295u")
    ++ defines (codes "LONG_MIN") (codes "(-2147483647L - 1)")
    ++ defines (codes "LONG_MAX") (codes "2147483647L")
    ++ defines (codes "ULONG_MAX") (codes "4294967295ul")

-- ANSI 4.2; this header defines its macro anew at each inclusion
abbrev pub assert_again : List ℕ
assert_again =
    declares (codes "void _assert_fail(const char *, const char *, int)")
    ++ codes "#undef assert\n"
    ++ codes "#ifdef NDEBUG\n"
    ++ codes "#define assert(e) ((void)0)\n"
    ++ codes "#else\n"
    ++ codes "#define assert(e) ((e) ? (void)0 : _assert_fail(#e, __FILE__, __LINE__))\n"
    ++ codes "#endif\n"

unfoldable pub header_text : Header → List ℕ
header_text header.Stdio = stdio
header_text header.Stdlib = stdlib
header_text header.Strings = strings
header_text header.Ctype = ctype
header_text header.Stddef = stddef
header_text header.Limits = limits
header_text header.Assert = assert_again

-- the declaration of `size_t` (ANSI 4.1.5)
unfoldable pub size_text : List ℕ
size_text = declares (codes "typedef unsigned int size_t")

abbrev pub is_assert : Header → Bool
is_assert header.Assert = true
is_assert _ = false

-- whether the header declares `size_t`
abbrev pub gives_size : Header → Bool
gives_size header.Stdio = true
gives_size header.Stdlib = true
gives_size header.Strings = true
gives_size header.Stddef = true
gives_size _ = false

abbrev pub same_header : Header → Header → Bool
same_header header.Stdio header.Stdio = true
same_header header.Stdlib header.Stdlib = true
same_header header.Strings header.Strings = true
same_header header.Ctype header.Ctype = true
same_header header.Stddef header.Stddef = true
same_header header.Limits header.Limits = true
same_header header.Assert header.Assert = true
same_header _ _ = false

-- A second inclusion adds nothing, but of `assert.h`.
abbrev pub is_fresh : List Header → Header → Bool
is_fresh seen h = is_assert h || not (list_any (same_header h) seen)

-- what a header adds where these were included before; `size_t` is declared once
abbrev pub added_text : List Header → Header → List ℕ
added_text seen h = if not (gives_size h) || list_any gives_size seen then header_text h else size_text ++ header_text h
