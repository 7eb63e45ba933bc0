-- Yardstick: to be compared with what it restates (docs/TRUST.md).
-- What is claimed of the answer to the tokens of a unit.
use Rattle.std.specs.Prelude.{◌≡◌, ℕ, ◌≤◌, true, false, List, [], ◌∷◌, ◌++◌, Result, Ok, Err}
use Rattle.sc_base.specs.declared.refusal.Fault.{Fault}
use Rattle.sc_base.specs.declared.refusal.Fault.TheVariants as fault
use Rattle.sc_base.specs.declared.refusal.X.TheVariants as x
use Rattle.sc_tree.specs.declared.statement.External.{External}
use Rattle.sc_tree.specs.declared.statement.Unit.{Unit as Tree}
use Rattle.sc_parse_names.specs.declared.kind.Symbol.{Symbol}
use Rattle.sc_parse_expr.specs.Brackets.{AreShallow}
use Rattle.sc_parse_unit.specs.Grammar.{IsUnit}
use Rattle.sc_parse_unit.specs.Machine.{start}
use Rattle.sc_parse_unit.specs.Parse.{answer, Gives}

-- The answer is the unit with these functions and declarations, unless memory runs out.
abbrev pub Finds : List External → Result Tree Fault → Type 0
Finds all (Ok unit) = unit.items ≡ all
Finds all (Err fault.NoMemory) = Unit {0}
Finds all (Err (fault.Refused r)) = ⊥

-- the line of the last token, or l where there is none
abbrev pub last_line : ℕ → List Symbol → ℕ
last_line l [] = l
last_line l (t ∷ ts) = last_line t.line ts

-- No unit begins with the tokens, within the limits or not.
abbrev pub NoneBegins : List Symbol → Type 0
NoneBegins ts = (us : List Symbol) (all : List External) → IsUnit false (ts ++ us) all → ⊥

-- No unit begins with the tokens through one on this line; or they are no unit, and the last is on this line.
pub data Fails (l : ℕ) (ts : List Symbol) : Type 0 where
  at_token : (before : List Symbol) (t : Symbol) (us : List Symbol) → ts ≡ before ++ t ∷ us → t.line ≡ l → NoneBegins (before ++ t ∷ []) → Fails l ts
  at_end : last_line 1 ts ≡ l → ((all : List External) → IsUnit false ts all → ⊥) → Fails l ts

-- Each unit within the limits is the answer to its tokens.
abbrev pub FindsEachUnit : Type 0
FindsEachUnit = (ts : List Symbol) (all : List External) → IsUnit true ts all → AreShallow 0 ts → answer 0 1 start ts ≡ Ok all

-- X5 is the answer only where the tokens are no unit.
abbrev pub RefusesNoUnit : Type 0
RefusesNoUnit = (ts : List Symbol) (l : ℕ) → answer 0 1 start ts ≡ Err (x.X5, l) → Fails l ts

-- What is the answer to tokens is a unit of the grammar within the limits, and they are this unit.
abbrev pub TakesNoOther : Type 0
TakesNoOther = (ts : List Symbol) (all : List External) → answer 0 1 start ts ≡ Ok all → IsUnit true ts all

-- What is found is such a unit.
abbrev pub FoundOnly : List Symbol → Result Tree Fault → Type 0
FoundOnly ts (Ok unit) = IsUnit true ts unit.items
FoundOnly ts (Err fault.NoMemory) = Unit {0}
FoundOnly ts (Err (fault.Refused r)) = Unit {0}
