-- Yardstick: to be compared with what it restates (docs/TRUST.md).
-- The refusal of translation that a finding stands for.
use Rattle.std.specs.Prelude.{ℕ, ◌≡◌, [], Result, Ok, Err, codes}
use Rattle.sc_base.specs.declared.NoMemory.{NoMemory}
use Rattle.sc_base.specs.declared.refusal.X.{X}
use Rattle.sc_base.specs.declared.refusal.X.TheVariants as x
use Rattle.sc_base.specs.declared.refusal.Fault.{Fault}
use Rattle.sc_base.specs.declared.refusal.Fault.TheVariants as translation
use Rattle.sc_check_operand.specs.Causes.{kind_of}
use Rattle.sc_check_declare.specs.Outcomes.{word}
use Rattle.sc_check_scope.specs.declared.fault.Problem.TheVariants as problem
use Rattle.sc_check_labels.specs.declared.fault.LabelRule.{LabelRule}
use Rattle.sc_check_labels.specs.declared.fault.LabelRule.TheVariants as rule
use Rattle.sc_check_body.specs.declared.fault.Finding.{Finding}
use Rattle.sc_check_body.specs.declared.fault.Finding.TheVariants as finding
use Rattle.sc_check_body.specs.declared.fault.UnitFault.{UnitFault}
use Rattle.sc_check_body.specs.declared.fault.UnitFault.TheVariants as fault
use Rattle.sc_core.specs.declared.module.Core.{Core}
use Rattle.sc_check_body.specs.Faults.{Checked}

abbrev pub label_kind : LabelRule → X
label_kind rule.Constraint = x.X7
label_kind rule.CaseDepth = x.X9 (codes "casedepth")
label_kind rule.Cases = x.X10 (codes "cases")
label_kind rule.Undeclared = x.X6
label_kind rule.GotoIn = x.X9 (codes "gotoin")

abbrev pub kind : Finding → X
kind (finding.Construct (problem.Typing d)) = kind_of d.cause
kind (finding.Construct (problem.Declaring r)) = word r.reason
kind (finding.Label r) = label_kind r.rule

abbrev pub line_of : Finding → ℕ
line_of (finding.Construct (problem.Typing d)) = d.line
line_of (finding.Construct (problem.Declaring r)) = r.line
line_of (finding.Label r) = r.line

-- what is told of a fault; the file stays empty
abbrev pub Tells : UnitFault → Fault → Type 0
Tells fault.NoMemory f = f ≡ translation.NoMemory
Tells (fault.Found x) translation.NoMemory = Unit {0}
Tells (fault.Found x) (translation.Refused s) = s ≡ record { kind = kind x; file = []; line = line_of x }

-- of a kind whose word may lack memory
abbrev pub TellsKind : Result X NoMemory → ℕ → Fault → Type 0
TellsKind (Ok k) line f = f ≡ translation.Refused (record { kind = k; file = []; line = line })
TellsKind (Err e) line f = f ≡ translation.NoMemory

-- the first refusal of a unit has this kind and this line
abbrev pub IsRefused : Checked Core → X → ℕ → Type 0
IsRefused (Ok core) k line = ⊥
IsRefused (Err f) k line = (k ≡ kind f) × (line ≡ line_of f)

-- what the code answers to a unit: the module that it is, or its first refusal, unless memory runs out
abbrev pub Answers : Checked Core → Result Core Fault → Type 0
Answers outcome (Ok core) = outcome ≡ Ok core
Answers outcome (Err translation.NoMemory) = Unit {0}
Answers outcome (Err (translation.Refused r)) = IsRefused outcome r.kind r.line × (r.file ≡ [])
