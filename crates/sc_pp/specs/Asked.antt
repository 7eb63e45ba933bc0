-- Yardstick: to be compared with what it restates (docs/TRUST.md).
-- The names that the folder is asked for, in their order.
use Rattle.std.specs.Prelude.{ℕ, zero, suc, nat_lt, ◌≡◌, ◌&&◌, if◌then◌else◌, List, [], ◌∷◌, ◌++◌, length, Option, Some, None, Result, Ok, Err}
use Rattle.std.specs.List.{Contains}
use Rattle.std.specs.Str.{is_utf8}
use Rattle.sc_outside.specs.Stored.{FileMap}
use Rattle.sc_pp.specs.declared.line.Line.{Line}
use Rattle.sc_pp.specs.declared.line.Directive.{Directive}
use Rattle.sc_pp.specs.declared.frame.Frame.{Frame}
use Rattle.sc_pp.specs.declared.failure.Failure.{Failure}
use Rattle.sc_pp.specs.declared.failure.Failure.TheVariants as failure
use Rattle.sc_pp.specs.declared.unit.PpFault.{PpFault}
use Rattle.sc_pp.specs.declared.unit.PpFault.TheVariants as fault
use Rattle.sc_pp.specs.declared.state.State.{State}
use Rattle.sc_pp.specs.declared.state.Place.{Place}
use Rattle.sc_pp.specs.declared.include.Wanted.{Wanted}
use Rattle.sc_pp.specs.declared.include.File.{File}
use Rattle.sc_pp.specs.Outcomes.{Outcome, after}
use Rattle.sc_pp.specs.Directives.{Step, simple, test, opened}
use Rattle.sc_pp.specs.Scans.{scanned}
use Rattle.sc_pp.specs.Reader.{turn}
use Rattle.sc_pp.specs.Answers.{one}
use Rattle.sc_pp.specs.Preprocessing.{Reading, reading, no_file, fetched, own_place, start}

abbrev pub Names : Type 0
Names = List (List ℕ)

-- what is asked for behind an outcome: nothing behind a refusal
abbrev pub behind : {A : Type 0} → Outcome A → (A → Names) → Names
behind (Err r) f = []
behind (Ok x) f = f x

-- an `#include` of a name in quotes asks for it
abbrev pub asked_by : Wanted → Names
asked_by w = if w.quoted && is_utf8 w.name then w.name ∷ [] else []

-- what a line that is of no conditional asks for
abbrev pub Asking : Type 0
Asking = Place → State → Directive → Names

abbrev pub by_line : Asking → Place → State → Option Directive → Names
by_line asking place s None = []
by_line asking place s (Some d) = asking place s d

-- a line, with the conditionals that are open
abbrev pub by_turn : Asking → Place → State → List Frame → Line → Names
by_turn asking place s fs u = behind (turn State place.name (test place) s fs u) (λ r. by_line asking place r.0 r.2)

module _ (read : Reading) (asking : Asking) where
  -- the lines of a file, one after the other
  abbrev pub by_lines : Place → List Line → State → List Frame → Names
  by_lines place [] s fs = []
  by_lines place (u ∷ us) s fs = by_turn asking place s fs u ++ behind (one read place s fs u) (λ p. by_lines place us p.0 p.1)

  -- a file that an `#include` enters
  abbrev pub by_file : State × Option File → Names
  by_file (s, None) = []
  by_file (s, Some f) = by_lines f.place f.lines s []

  -- a file that an `#include` names
  abbrev pub by_include : FileMap → Place → State → Wanted → Names
  by_include map place s w = asked_by w ++ behind (after (fetched map w) (opened place s w)) by_file

  abbrev pub by_step : FileMap → Place → Step → Names
  by_step map place (s, None) = []
  by_step map place (s, Some w) = by_include map place s w

-- where no file may be included
abbrev pub no_names : Asking
no_names place s d = []

-- The number is of the files that may be included inside each other from here.
abbrev pub asked : FileMap → ℕ → Asking
asked map zero place s d = behind (simple 0 place s d) (by_step no_file no_names map place)
asked map (suc depth) place s d = behind (simple (suc depth) place s d) (by_step (reading map depth) (asked map depth) map place)

-- what the lines of the unit's own file ask for
unfoldable pub asked_inside : FileMap → List ℕ → List ℕ → Names
asked_inside map name text = by_lines (reading map 15) (asked map 15) (own_place name) (scanned 0 text) (start name) []

abbrev pub asked_by_text : FileMap → List ℕ → Option (List ℕ) → Names
asked_by_text map name None = []
asked_by_text map name (Some text) = if nat_lt 1048576 (length text) then [] else asked_inside map name text

-- all names that a unit asks for, its own first
abbrev pub asked_in : FileMap → List ℕ → Names
asked_in map name = name ∷ asked_by_text map name (map name)

-- a file that could not be read is one of these
abbrev pub IsAmong : {A : Type 0} → Names → Result A Failure → Type 0
IsAmong names result = (name : List ℕ) → result ≡ Err (failure.File name) → Contains names name

abbrev pub IsFileAmong : {A : Type 0} → Names → Result A PpFault → Type 0
IsFileAmong names result = (name : List ℕ) → result ≡ Err (fault.File name) → Contains names name
