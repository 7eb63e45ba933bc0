-- Yardstick: to be compared with what it restates (docs/TRUST.md).
-- A string that initialises an array of characters (ANSI 3.5.7).
use Rattle.std.specs.Prelude.{ℕ, ◌-◌, ◌==◌, nat_lt, nat_le, not, ◌&&◌, if◌then◌else◌, List, [], ◌∷◌, ◌++◌, length, take, Ok}
use Rattle.sc_types.specs.Tables.{largest}
use Rattle.sc_check_declare.specs.declared.failure.Reason.TheVariants as r
use Rattle.sc_check_declare.specs.Outcomes.{Outcome, refuse}
use Rattle.sc_check_places.specs.declared.text.Text.{Text}

-- with the zero byte behind them
abbrev pub terminated : List ℕ → List ℕ
terminated bytes = bytes ++ 0 ∷ []

-- as many as the array has; an array without size takes it from the string
abbrev pub fitted : ℕ → List ℕ → Text
fitted size all =
    if size == 0 then record { length = length all; bytes = all; zeros = 0 }
    else record { length = size; bytes = take size all; zeros = size - length all }

-- The zero byte may be cut, and nothing else; bytes that have none are zero.
abbrev pub text : ℕ → ℕ → List ℕ → Outcome Text
text line size bytes =
    if not (size == 0) && nat_lt size (length bytes) then refuse r.Rule line
    else if size == 0 && nat_le largest (length bytes) then refuse r.Size line
    else Ok (fitted size (terminated bytes))
