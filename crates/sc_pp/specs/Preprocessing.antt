-- Yardstick: to be compared with what it restates (docs/TRUST.md).
-- Preprocessing of a unit (ANSI 2.1.1.2, 3.8): a function from files and a name to tokens, or to the first refusal.
use Rattle.std.specs.Prelude.{ℕ, zero, suc, nat_lt, if◌then◌else◌, List, [], ◌∷◌, length, Option, Some, None, Result, Ok, Err, codes}
use Rattle.std.specs.Str.{is_utf8}
use Rattle.sc_base.specs.declared.refusal.X.TheVariants as x
use Rattle.sc_outside.specs.Stored.{FileMap}
use Rattle.sc_lex.specs.declared.token.Token.{Token}
use Rattle.sc_macro.specs.Table as macros
use Rattle.sc_pp.specs.declared.line.Line.{Line}
use Rattle.sc_pp.specs.declared.line.Directive.{Directive}
use Rattle.sc_pp.specs.declared.unit.PpFault.{PpFault}
use Rattle.sc_pp.specs.declared.unit.PpFault.TheVariants as fault
use Rattle.sc_pp.specs.declared.state.State.{State}
use Rattle.sc_pp.specs.declared.state.Place.{Place}
use Rattle.sc_pp.specs.declared.include.Wanted.{Wanted}
use Rattle.sc_pp.specs.declared.include.File.{File}
use Rattle.sc_pp.specs.Outcomes.{Outcome, after, refuse}
use Rattle.sc_pp.specs.Groups as groups
use Rattle.sc_pp.specs.Directives.{Step, simple, test, opened}
use Rattle.sc_pp.specs.Scans.{scanned}

-- A file of the folder that an `#include` may mean. A name that is no text is no file's.
abbrev pub sized : List ℕ → Option (List ℕ) → Outcome (Option (List ℕ))
sized name None = Ok None
sized name (Some text) = if nat_lt 1048576 (length text) then refuse (x.X10 (codes "source")) name 1 else Ok (Some text)

abbrev pub fetched : FileMap → Wanted → Outcome (Option (List ℕ))
fetched map w = if w.quoted then (if is_utf8 w.name then sized w.name (map w.name) else Ok None) else Ok None

-- how a line is done at a place
abbrev pub Reading : Type 0
Reading = Place → State → Directive → Outcome State

-- the lines of a file, by their groups
abbrev pub file_done : Reading → Place → List Line → State → Outcome State
file_done reading place lines s = groups.whole State place.name (reading place) (test place) (groups.grouped lines) s

abbrev pub entered : Reading → State × Option File → Outcome State
entered inner (s, None) = Ok s
entered inner (s, Some f) = file_done inner f.place f.lines s

-- a file that an `#include` names is read
abbrev pub included : FileMap → Reading → Place → State → Wanted → Outcome State
included map inner place s w = after (after (fetched map w) (opened place s w)) (entered inner)

abbrev pub supplied : FileMap → Reading → Place → Step → Outcome State
supplied map inner place (s, None) = Ok s
supplied map inner place (s, Some w) = included map inner place s w

abbrev pub reading_in : FileMap → ℕ → Reading → Reading
reading_in map depth inner place s d = after (simple depth place s d) (supplied map inner place)

-- where no file may be included
abbrev pub no_file : Reading
no_file place s d = Ok s

-- A line that is of no conditional. The number is of the files that may be included inside each other from here.
abbrev pub reading : FileMap → ℕ → Reading
reading map zero = reading_in map 0 no_file
reading map (suc depth) = reading_in map (suc depth) (reading map depth)

-- the reading of the files that are included from here
abbrev pub inner_reading : FileMap → ℕ → Reading
inner_reading map zero = no_file
inner_reading map (suc depth) = reading map depth

-- the place of the unit's own file
abbrev pub own_place : List ℕ → Place
own_place name = record { name = name; number = 0; top = 0 }

abbrev pub start : List ℕ → State
start name = record { env = record { table = macros.start; names = name ∷ [] }; out = []; left = 1000000; opened = 0; seen = [] }

abbrev pub tokens_of : Outcome State → Outcome (List Token)
tokens_of o = after o (λ s. Ok s.out)

-- 15 files may be included inside each other
unfoldable pub read_unit : FileMap → List ℕ → List ℕ → Outcome (List Token)
read_unit map name text = tokens_of (file_done (reading map 15) (own_place name) (scanned 0 text) (start name))

-- the unit in a file that has this text
abbrev pub unit : FileMap → List ℕ → List ℕ → Outcome (List Token)
unit map name text = if nat_lt 1048576 (length text) then refuse (x.X10 (codes "source")) name 1 else read_unit map name text

abbrev pub told : Outcome (List Token) → Result (List Token) PpFault
told (Ok tokens) = Ok tokens
told (Err r) = Err (fault.Refused r)

abbrev pub by_text : FileMap → List ℕ → Option (List ℕ) → Result (List Token) PpFault
by_text map name None = Err fault.Missing
by_text map name (Some text) = if nat_lt 8388608 (length text) then Err fault.TooLong else told (unit map name text)

-- the tokens of a unit, or why there are none
abbrev pub preprocessed : FileMap → List ℕ → Result (List Token) PpFault
preprocessed map name = by_text map name (map name)
