-- Yardstick: to be compared with what it restates (docs/TRUST.md).
-- What `parse` claims of its answer: what is found, and why tokens are refused.
use Rattle.std.specs.Prelude.{◌≡◌, ℕ, true, false, List, Result, Ok, Err}
use Rattle.sc_base.specs.declared.refusal.Fault.{Fault}
use Rattle.sc_base.specs.declared.refusal.Fault.TheVariants as fault
use Rattle.sc_base.specs.declared.refusal.X.{X}
use Rattle.sc_base.specs.declared.refusal.X.TheVariants as x
use Rattle.sc_tree.specs.declared.statement.External.{External}
use Rattle.sc_tree.specs.declared.statement.Unit.{Unit as Tree}
use Rattle.sc_parse_names.specs.declared.kind.Symbol.{Symbol}
use Rattle.sc_parse_expr.specs.Brackets.{AreShallow}
use Rattle.sc_parse_unit.specs.Grammar.{IsUnit}
use Rattle.sc_parse_unit.specs.Machine.{start}
use Rattle.sc_parse_unit.specs.Parse.{answer, Gives}
use Rattle.sc_parse_unit.specs.Claims.{Finds, Fails, FoundOnly}
use Rattle.sc_parse_laws.specs.Claims.{Faulty, UnitMark, UnitLimit}
use Rattle.sc_parse_laws.specs.Crowds.{CrowdedCall, CrowdedList}

-- Why the tokens are refused with this kind on this line: they are no unit, and none of those before is left out by itself; a construct that is left out stands there; or a limit is passed.
pub data Cause (ts : List Symbol) : X → ℕ → Type 0 where
  no_unit : {l : ℕ} → Fails l ts → Faulty ts l → Cause ts x.X5 l
  left_out : {word : List ℕ} {l : ℕ} → UnitMark ts word l → Cause ts (x.X9 word) l
  beyond_limit : {word : List ℕ} {l : ℕ} → UnitLimit ts word l → Cause ts (x.X10 word) l

abbrev pub HasCause : List Symbol → Result Tree Fault → Type 0
HasCause ts (Ok unit) = Unit {0}
HasCause ts (Err fault.NoMemory) = Unit {0}
HasCause ts (Err (fault.Refused r)) = Cause ts r.kind r.line

-- The answer names a limit, unless memory runs out.
abbrev pub IsLimit : Result Tree Fault → Type 0
IsLimit (Ok unit) = ⊥
IsLimit (Err fault.NoMemory) = Unit {0}
IsLimit (Err (fault.Refused r)) = (word : List ℕ) × (r.kind ≡ x.X10 word)

-- At most 500 brackets are open in what is found.
abbrev pub FoundShallow : List Symbol → Result Tree Fault → Type 0
FoundShallow ts (Ok unit) = AreShallow 0 ts
FoundShallow ts (Err fault.NoMemory) = Unit {0}
FoundShallow ts (Err (fault.Refused r)) = Unit {0}

-- A unit within the limits is found, and found to be no other; what is found is a unit within the limits. A refusal has its cause. A unit beyond the limits is refused for one, and so are tokens that pass the limit of arguments or of parameters, whatever comes behind the last of them. The answer is that of the machine.
pub record Parses (ts : List Symbol) (result : Result Tree Fault) : Type 0 where
  pub answers : Gives (answer 0 1 start ts) result
  pub finds : (all : List External) → IsUnit true ts all → AreShallow 0 ts → Finds all result
  pub only : FoundOnly ts result
  pub shallow : FoundShallow ts result
  pub causes : HasCause ts result
  pub beyond : (all : List External) → IsUnit false ts all → ((them : List External) → IsUnit true ts them → AreShallow 0 ts → ⊥) → IsLimit result
  pub calls : CrowdedCall ts → IsLimit result
  pub lists : CrowdedList ts → IsLimit result
