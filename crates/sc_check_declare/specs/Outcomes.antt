-- Inside: plumbing, a representation, an invariant or a promise beside the claim (docs/TRUST.md).
-- Outcomes: a value, or a refusal.
use Rattle.std.specs.Prelude.{ℕ, ◌≡◌, ⊤, [], Result, Ok, Err, codes}
use Rattle.sc_base.specs.declared.refusal.X.{X}
use Rattle.sc_base.specs.declared.refusal.X.TheVariants as x
use Rattle.sc_base.specs.declared.refusal.Fault.{Fault}
use Rattle.sc_base.specs.declared.refusal.Fault.TheVariants as fault
use Rattle.sc_check_declare.specs.declared.failure.Reason.{Reason}
use Rattle.sc_check_declare.specs.declared.failure.Reason.TheVariants as reason
use Rattle.sc_check_declare.specs.declared.failure.Refused.{Refused}
use Rattle.sc_check_declare.specs.declared.failure.Failure.{Failure}
use Rattle.sc_check_declare.specs.declared.failure.Failure.TheVariants as failure

-- what a definition gives: a value, or the cause of a refusal with its line
abbrev pub Outcome : Type 0 → Type 0
Outcome A = Result A Refused

abbrev pub refuse : {A : Type 0} → Reason → ℕ → Outcome A
refuse why line = Err (record { reason = why; line = line })

abbrev pub refusal : Reason → ℕ → Failure
refusal why line = failure.Refused (record { reason = why; line = line })

-- goes on with what is there, and passes a refusal on
abbrev pub after : {A B : Type 0} → Outcome A → (A → Outcome B) → Outcome B
after (Err e) f = Err e
after (Ok a) f = f a

-- the code's failure is this outcome's refusal, want of memory aside
abbrev pub Fails : {A : Type 0} → Outcome A → Failure → Type 0
Fails outcome failure.NoMemory = ⊤
Fails outcome (failure.Refused r) = outcome ≡ Err r

-- the code's result is this outcome
abbrev pub Meets : {A : Type 0} → Outcome A → Result A Failure → Type 0
Meets outcome (Ok a) = outcome ≡ Ok a
Meets outcome (Err f) = Fails outcome f

-- the same of what changes its place
abbrev pub Gives : {A : Type 0} → Outcome A → Result (Unit {0}) Failure → A → Type 0
Gives outcome (Ok u) new = outcome ≡ Ok new
Gives outcome (Err f) new = Fails outcome f

-- the same of what answers a value and changes its place
abbrev pub GivesWith : {A S : Type 0} → Outcome (A × S) → Result A Failure → S → Type 0
GivesWith outcome (Ok a) new = outcome ≡ Ok (a, new)
GivesWith outcome (Err f) new = Fails outcome f

-- the kind that is told
abbrev pub word : Reason → X
word reason.Rule = x.X7
word reason.NotConstant = x.X8
word reason.StructureValue = x.X9 (codes "structvalue")
word reason.Main = x.X9 (codes "main")
word reason.LibraryName = x.X9 (codes "libraryname")
word reason.Height = x.X10 (codes "height")
word reason.Size = x.X10 (codes "size")
word reason.Frame = x.X10 (codes "frame")

abbrev pub Tells : Failure → Fault → Type 0
Tells failure.NoMemory f = f ≡ fault.NoMemory
Tells (failure.Refused r) fault.NoMemory = ⊤
Tells (failure.Refused r) (fault.Refused s) = s ≡ record { kind = word r.reason; file = []; line = r.line }
