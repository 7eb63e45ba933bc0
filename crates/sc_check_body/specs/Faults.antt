-- Inside: plumbing, a representation, an invariant or a promise beside the claim (docs/TRUST.md).
-- Answers that may be refusals of a unit.
use Rattle.std.specs.Prelude.{◌≡◌, ℕ, List, [], ◌∷◌, Result, Ok, Err}
use Rattle.sc_check_operand.specs.declared.fault.Diagnostic.{Diagnostic}
use Rattle.sc_check_operand.specs.declared.fault.TypeFault.{TypeFault}
use Rattle.sc_check_declare.specs.declared.failure.Reason.TheVariants as r
use Rattle.sc_check_declare.specs.declared.failure.Refused.{Refused}
use Rattle.sc_check_declare.specs.declared.failure.Failure.{Failure}
use Rattle.sc_check_labels.specs.declared.fault.LabelRefused.{LabelRefused}
use Rattle.sc_check_labels.specs.declared.fault.LabelFault.{LabelFault}
use Rattle.sc_check_labels.specs.declared.fault.LabelFault.TheVariants as label
use Rattle.sc_check_scope.specs.declared.fault.Problem.{Problem}
use Rattle.sc_check_scope.specs.declared.fault.Problem.TheVariants as problem
use Rattle.sc_check_scope.specs.declared.fault.CheckFault.{CheckFault}
use Rattle.sc_check_scope.specs.declared.fault.CheckFault.TheVariants as below
use Rattle.sc_check_scope.specs.Steps.{of_type_fault, of_failure}
use Rattle.sc_check_body.specs.declared.fault.Finding.{Finding}
use Rattle.sc_check_body.specs.declared.fault.Finding.TheVariants as finding
use Rattle.sc_check_body.specs.declared.fault.UnitFault.{UnitFault}
use Rattle.sc_check_body.specs.declared.fault.UnitFault.TheVariants as fault

abbrev pub Checked : Type 0 → Type 0
Checked A = Result A Finding

abbrev pub and_then : {A B : Type 0} → Checked A → (A → Checked B) → Checked B
and_then (Ok a) f = f a
and_then (Err e) f = Err e

-- a value, and what is in scope as before
abbrev pub keep : {A S : Type 0} → S → Checked A → Checked (A × S)
keep s r = and_then r (λ a. Ok (a, s))

-- The elements of a list, from the first, each with what those before it have made.
abbrev pub each : {X A S : Type 0} → (X → A → S → Checked (A × S)) → List X → A → S → Checked (A × S)
each f [] a s = Ok (a, s)
each f (x ∷ xs) a s = and_then (f x a s) (λ r. each f xs r.0 r.1)

-- what a part of the unit refuses
abbrev pub within : {A : Type 0} → Result A Problem → Checked A
within (Ok a) = Ok a
within (Err p) = Err (finding.Construct p)

-- by a rule of expressions
abbrev pub typing : {A : Type 0} → Result A Diagnostic → Checked A
typing (Ok a) = Ok a
typing (Err d) = Err (finding.Construct (problem.Typing d))

-- by a rule of declarations
abbrev pub declaring : {A : Type 0} → Result A Refused → Checked A
declaring (Ok a) = Ok a
declaring (Err r) = Err (finding.Construct (problem.Declaring r))

-- by a rule of labels
abbrev pub labelling : {A : Type 0} → Result A LabelRefused → Checked A
labelling (Ok a) = Ok a
labelling (Err r) = Err (finding.Label r)

-- X7 for a construct of this line
abbrev pub rule : {A : Type 0} → ℕ → Checked A
rule line = Err (finding.Construct (problem.Declaring (record { reason = r.Rule; line = line })))

-- what a rule of a part is for the unit
abbrev pub of_check : CheckFault → UnitFault
of_check (below.Found p) = fault.Found (finding.Construct p)
of_check below.NoMemory = fault.NoMemory

abbrev pub of_label : LabelFault → UnitFault
of_label (label.Refused r) = fault.Found (finding.Label r)
of_label label.NoMemory = fault.NoMemory

abbrev pub of_typing : TypeFault → UnitFault
of_typing x = of_check (of_type_fault x)

abbrev pub of_declaring : Failure → UnitFault
of_declaring x = of_check (of_failure x)

-- the code's fault is this outcome's refusal, want of memory aside
abbrev pub Fails : {A : Type 0} → Checked A → UnitFault → Type 0
Fails outcome (fault.Found f) = outcome ≡ Err f
Fails outcome fault.NoMemory = Unit {0}

-- what the code answers, unless memory runs out
abbrev pub Says : {A : Type 0} → Checked A → Result A UnitFault → Type 0
Says outcome (Ok a) = outcome ≡ Ok a
Says outcome (Err f) = Fails outcome f

-- the same of what answers a value and changes its place
abbrev pub GivesWith : {A S : Type 0} → Checked (A × S) → Result A UnitFault → S → Type 0
GivesWith outcome (Ok a) new = outcome ≡ Ok (a, new)
GivesWith outcome (Err f) new = Fails outcome f
