-- Inside: plumbing, a representation, an invariant or a promise beside the claim (docs/TRUST.md).
-- Answers that may be refusals.
use Rattle.std.specs.Prelude.{◌≡◌, ℕ, Result, Ok, Err}
use Rattle.sc_check_operand.specs.declared.fault.Cause.{Cause}
use Rattle.sc_check_operand.specs.declared.fault.Cause.TheVariants as cause
use Rattle.sc_check_operand.specs.declared.fault.Diagnostic.{Diagnostic}
use Rattle.sc_check_operand.specs.declared.fault.TypeFault.{TypeFault}
use Rattle.sc_check_operand.specs.declared.fault.TypeFault.TheVariants as fault

abbrev pub Checked : Type 0 → Type 0
Checked A = Result A Diagnostic

abbrev pub and_then : {A B : Type 0} → Checked A → (A → Checked B) → Checked B
and_then (Ok a) f = f a
and_then (Err e) f = Err e

abbrev pub refused : {A : Type 0} → Cause → ℕ → Checked A
refused cause line = Err (record { cause = cause; line = line })

-- a rule of types fails
abbrev pub mismatch : {A : Type 0} → ℕ → Checked A
mismatch line = refused cause.Mismatch line

-- what the code answers, unless memory runs out
abbrev pub Says : {A : Type 0} → Checked A → Result A TypeFault → Type 0
Says outcome (Ok a) = outcome ≡ Ok a
Says outcome (Err (fault.Diagnosed d)) = outcome ≡ Err d
Says outcome (Err fault.NoMemory) = Unit {0}
