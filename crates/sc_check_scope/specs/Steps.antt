-- Inside: plumbing, a representation, an invariant or a promise beside the claim (docs/TRUST.md).
-- Answers that may be refusals, and those that change what is in scope.
use Rattle.std.specs.Prelude.{◌≡◌, List, [], ◌∷◌, Result, Ok, Err}
use Rattle.sc_check_operand.specs.declared.fault.Diagnostic.{Diagnostic}
use Rattle.sc_check_operand.specs.declared.fault.TypeFault.{TypeFault}
use Rattle.sc_check_operand.specs.declared.fault.TypeFault.TheVariants as typing_fault
use Rattle.sc_check_declare.specs.declared.failure.Refused.{Refused}
use Rattle.sc_check_declare.specs.declared.failure.Failure.{Failure}
use Rattle.sc_check_declare.specs.declared.failure.Failure.TheVariants as failure
use Rattle.sc_check_scope.specs.declared.fault.Problem.{Problem}
use Rattle.sc_check_scope.specs.declared.fault.Problem.TheVariants as problem
use Rattle.sc_check_scope.specs.declared.fault.CheckFault.{CheckFault}
use Rattle.sc_check_scope.specs.declared.fault.CheckFault.TheVariants as fault

abbrev pub Checked : Type 0 → Type 0
Checked A = Result A Problem

abbrev pub and_then : {A B : Type 0} → Checked A → (A → Checked B) → Checked B
and_then (Ok a) f = f a
and_then (Err e) f = Err e

-- by a rule of expressions
abbrev pub typing : {A : Type 0} → Result A Diagnostic → Checked A
typing (Ok a) = Ok a
typing (Err d) = Err (problem.Typing d)

-- by a rule of declarations
abbrev pub declaring : {A : Type 0} → Result A Refused → Checked A
declaring (Ok a) = Ok a
declaring (Err r) = Err (problem.Declaring r)

abbrev pub of_type_fault : TypeFault → CheckFault
of_type_fault (typing_fault.Diagnosed d) = fault.Found (problem.Typing d)
of_type_fault typing_fault.NoMemory = fault.NoMemory

abbrev pub of_failure : Failure → CheckFault
of_failure (failure.Refused r) = fault.Found (problem.Declaring r)
of_failure failure.NoMemory = fault.NoMemory

-- the code's fault is this outcome's refusal, want of memory aside
abbrev pub Fails : {A : Type 0} → Checked A → CheckFault → Type 0
Fails outcome (fault.Found p) = outcome ≡ Err p
Fails outcome fault.NoMemory = Unit {0}

-- what the code answers, unless memory runs out
abbrev pub Says : {A : Type 0} → Checked A → Result A CheckFault → Type 0
Says outcome (Ok a) = outcome ≡ Ok a
Says outcome (Err f) = Fails outcome f

-- the same of what answers a value and changes its place
abbrev pub GivesWith : {A S : Type 0} → Checked (A × S) → Result A CheckFault → S → Type 0
GivesWith outcome (Ok a) new = outcome ≡ Ok (a, new)
GivesWith outcome (Err f) new = Fails outcome f

-- a value, and what is in scope as before
abbrev pub keep : {A S : Type 0} → S → Checked A → Checked (A × S)
keep s r = and_then r (λ a. Ok (a, s))

-- The elements of a list, from the first, each with what those before it have made.
abbrev pub each : {X A S : Type 0} → (X → A → S → Checked (A × S)) → List X → A → S → Checked (A × S)
each f [] a s = Ok (a, s)
each f (x ∷ xs) a s = and_then (f x a s) (λ r. each f xs r.0 r.1)
