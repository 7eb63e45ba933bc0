-- Inside: plumbing, a representation, an invariant or a promise beside the claim (docs/TRUST.md).
-- Answers that may be refusals of a label or a `goto`.
use Rattle.std.specs.Prelude.{◌≡◌, ℕ, Result, Ok, Err}
use Rattle.sc_check_labels.specs.declared.fault.LabelRule.{LabelRule}
use Rattle.sc_check_labels.specs.declared.fault.LabelRefused.{LabelRefused}
use Rattle.sc_check_labels.specs.declared.fault.LabelFault.{LabelFault}
use Rattle.sc_check_labels.specs.declared.fault.LabelFault.TheVariants as fault

abbrev pub Checked : Type 0 → Type 0
Checked A = Result A LabelRefused

abbrev pub and_then : {A B : Type 0} → Checked A → (A → Checked B) → Checked B
and_then (Ok a) f = f a
and_then (Err e) f = Err e

abbrev pub refuse : {A : Type 0} → LabelRule → ℕ → Checked A
refuse rule line = Err (record { rule = rule; line = line })

-- the code's fault is this outcome's refusal, want of memory aside
abbrev pub Fails : {A : Type 0} → Checked A → LabelFault → Type 0
Fails outcome (fault.Refused r) = outcome ≡ Err r
Fails outcome fault.NoMemory = Unit {0}

-- what the code answers, unless memory runs out
abbrev pub Says : {A : Type 0} → Checked A → Result A LabelFault → Type 0
Says outcome (Ok a) = outcome ≡ Ok a
Says outcome (Err f) = Fails outcome f

-- the same of what answers a value and changes its place
abbrev pub GivesWith : {A S : Type 0} → Checked (A × S) → Result A LabelFault → S → Type 0
GivesWith outcome (Ok a) new = outcome ≡ Ok (a, new)
GivesWith outcome (Err f) new = Fails outcome f
