-- Yardstick: to be compared with what it restates (docs/TRUST.md).
-- A program that is made: its files, the commands that run it, and the line that tells of it.
use Rattle.std.specs.Prelude.{ℕ, zero, suc, ◌+◌, ◌%◌, Bool, ◌==◌, if◌then◌else◌, List, [], ◌++◌, length, Some, None, codes, decimal}
use Rattle.std.specs.List.{filter}
use Rattle.std.specs.Str.{bytes_eq}
use Rattle.sc_outside.specs.Stored.{FileMap}

-- so many texts, one behind the other
unfoldable pub texts : (ℕ → List ℕ) → ℕ → List ℕ
texts text zero = []
texts text (suc count) = texts text count ++ text count

-- the one behind this one, of so many in a circle
abbrev pub next_of : ℕ → ℕ → ℕ
next_of count at = (at + 1) % count

-- ---- the files

-- Each module declares the ten functions of the next one and defines ten of its own, which call them.
abbrev pub declared : ℕ → ℕ → List ℕ
declared index function = codes "int f" ++ decimal index ++ codes "_" ++ decimal function ++ codes "(int n);\n"

abbrev pub defined_front : ℕ → ℕ → List ℕ
defined_front index function = codes "int f" ++ decimal index ++ codes "_" ++ decimal function
    ++ codes "(int n) { int a[8], k; for (k = 0; k < 8; k++) a[k] = n + k; if (n == 0) return 0; "

abbrev pub defined_back : ℕ → ℕ → List ℕ
defined_back next function = codes "return a[1] - a[0] + f" ++ decimal next ++ codes "_" ++ decimal (next_of 10 function) ++ codes "(n - 1); }\n"

abbrev pub defined : ℕ → ℕ → ℕ → List ℕ
defined index next function = defined_front index function ++ defined_back next function

-- the first module has `main`
abbrev pub head : ℕ → List ℕ
head index = if index == 0 then codes "#include <stdio.h>\n" else []

abbrev pub main_function : ℕ → List ℕ
main_function index = if index == 0 then codes "int main(void) { printf(\"%d\\n\", f0_0(1000)); return 0; }\n" else []

abbrev pub made_file : ℕ → ℕ → List ℕ
made_file count index = head index ++ texts (declared (next_of count index)) 10 ++ texts (defined index (next_of count index)) 10 ++ main_function index

abbrev pub file_name : ℕ → List ℕ
file_name index = codes "g" ++ decimal index ++ codes ".c"

-- the files of the first so many of the modules
abbrev pub made_folder : ℕ → ℕ → FileMap
made_folder count zero name = None
made_folder count (suc index) name = if bytes_eq (file_name index) name then Some (made_file count index) else made_folder count index name

-- ---- the commands

abbrev pub loaded : ℕ → List ℕ
loaded index = codes "load g" ++ decimal index ++ codes "\n"

abbrev pub compiled : ℕ → List ℕ
compiled index = codes "compile g" ++ decimal index ++ codes "\nswap g" ++ decimal index ++ codes " object\nrun\n"

-- each second module is interpreted again
abbrev pub taken_back : ℕ → List ℕ
taken_back index = if index % 2 == 0 then codes "swap g" ++ decimal index ++ codes " source\n" else []

abbrev pub made_commands : ℕ → List ℕ
made_commands count = texts loaded count ++ codes "run\n" ++ texts compiled count ++ texts taken_back count ++ codes "run\nquit\n"

-- ---- what is told of it

abbrev pub is_line_feed : ℕ → Bool
is_line_feed b = b == 10

abbrev pub runs_told : ℕ → List ℕ
runs_told count = codes "> made " ++ decimal count ++ codes " modules " ++ decimal (count + 2) ++ codes " runs "

-- the lines and the bytes of the answers
abbrev pub made_line : ℕ → List ℕ → List ℕ
made_line count answered = runs_told count ++ decimal (length (filter is_line_feed answered)) ++ codes " lines " ++ decimal (length answered) ++ codes " bytes\n"
