-- Inside: plumbing, a representation, an invariant or a promise beside the claim (docs/TRUST.md).
-- Outcomes: a value, or a refusal.
use Rattle.std.specs.Prelude.{ℕ, ◌≡◌, ⊤, [], Result, Ok, Err, codes}
use Rattle.sc_base.specs.declared.refusal.X.{X}
use Rattle.sc_base.specs.declared.refusal.X.TheVariants as x
use Rattle.sc_base.specs.declared.refusal.Refusal.{Refusal}
use Rattle.sc_base.specs.declared.refusal.Fault.{Fault}
use Rattle.sc_base.specs.declared.refusal.Fault.TheVariants as fault
use Rattle.sc_macro.specs.declared.failure.Reason.{Reason}
use Rattle.sc_macro.specs.declared.failure.Reason.TheVariants as reason
use Rattle.sc_macro.specs.declared.failure.Refused.{Refused}
use Rattle.sc_macro.specs.declared.failure.Failure.{Failure}
use Rattle.sc_macro.specs.declared.failure.Failure.TheVariants as failure

-- what a definition gives: a value, or the cause of a refusal with its line
abbrev pub Outcome : Type 0 → Type 0
Outcome A = Result A Refused

abbrev pub refuse : {A : Type 0} → Reason → ℕ → Outcome A
refuse why line = Err (record { reason = why; line = line })

-- goes on with what is there, and passes a refusal on
abbrev pub after : {A B : Type 0} → Outcome A → (A → Outcome B) → Outcome B
after (Err e) f = Err e
after (Ok x) f = f x

-- the code's result is this outcome, want of memory aside
abbrev pub Meets : {A : Type 0} → Outcome A → Result A Failure → Type 0
Meets outcome (Ok x) = outcome ≡ Ok x
Meets outcome (Err failure.NoMemory) = ⊤
Meets outcome (Err (failure.Refused r)) = outcome ≡ Err r

-- the kind that is told
abbrev pub word : Reason → X
word reason.Malformed = x.X2
word reason.Misuse = x.X3
word reason.Paste = x.X9 (codes "paste")
word reason.Macros = x.X10 (codes "macros")
word reason.Identifier = x.X10 (codes "identifier")

-- the refusal that is told, with no file
abbrev pub refusal : Refused → Refusal
refusal r = record { kind = word r.reason; file = []; line = r.line }

abbrev pub Tells : Failure → Fault → Type 0
Tells failure.NoMemory f = f ≡ fault.NoMemory
Tells (failure.Refused r) fault.NoMemory = ⊤
Tells (failure.Refused r) (fault.Refused s) = s ≡ refusal r

-- an outcome as it is told
abbrev pub told : {A : Type 0} → Outcome A → Result A Refusal
told (Ok x) = Ok x
told (Err r) = Err (refusal r)

-- the result is this outcome, want of memory aside
abbrev pub Gives : {A : Type 0} → Result A Refusal → Result A Fault → Type 0
Gives outcome (Ok x) = outcome ≡ Ok x
Gives outcome (Err fault.NoMemory) = ⊤
Gives outcome (Err (fault.Refused r)) = outcome ≡ Err r
