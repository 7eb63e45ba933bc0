-- Inside: plumbing, a representation, an invariant or a promise beside the claim (docs/TRUST.md).
-- Outcomes: a value, or a refusal.
use Rattle.std.specs.Prelude.{ℕ, ◌≡◌, List, Result, Ok, Err}
use Rattle.sc_base.specs.declared.refusal.X.{X}
use Rattle.sc_base.specs.declared.refusal.Refusal.{Refusal}
use Rattle.sc_base.specs.declared.refusal.Fault.{Fault}
use Rattle.sc_base.specs.declared.refusal.Fault.TheVariants as fault
use Rattle.sc_pp.specs.declared.failure.Failure.{Failure}
use Rattle.sc_pp.specs.declared.failure.Failure.TheVariants as failure

abbrev pub Outcome : Type 0 → Type 0
Outcome A = Result A Refusal

-- goes on with what is there, and passes a refusal on
abbrev pub after : {A B : Type 0} → Outcome A → (A → Outcome B) → Outcome B
after (Err r) f = Err r
after (Ok x) f = f x

-- a refusal at a line of a file
abbrev pub refusal : X → List ℕ → ℕ → Refusal
refusal kind file line = record { kind = kind; file = file; line = line }

abbrev pub refuse : {A : Type 0} → X → List ℕ → ℕ → Outcome A
refuse kind file line = Err (refusal kind file line)

-- a refusal that names no file, in this file
abbrev pub in_file : List ℕ → Refusal → Refusal
in_file file r = refusal r.kind file r.line

-- the same for an outcome
abbrev pub told_in : {A : Type 0} → List ℕ → Outcome A → Outcome A
told_in file (Ok x) = Ok x
told_in file (Err r) = Err (in_file file r)

-- The code fails with this outcome. Want of memory may come in its place.
abbrev pub Fails : {A : Type 0} → Outcome A → Fault → Type 0
Fails outcome f = (r : Refusal) → f ≡ fault.Refused r → outcome ≡ Err r

-- the code's result is this outcome
abbrev pub Meets : {A : Type 0} → Outcome A → Result A Fault → Type 0
Meets outcome (Ok x) = outcome ≡ Ok x
Meets outcome (Err f) = Fails outcome f

-- the same where a value is left in place
abbrev pub Leaves : {S : Type 0} → Outcome S → Result Unit Fault → S → Type 0
Leaves outcome (Ok u) s = outcome ≡ Ok s
Leaves outcome (Err f) s = Fails outcome f

-- the same where a value is given, too
abbrev pub Yields : {A S : Type 0} → Outcome (S × A) → Result A Fault → S → Type 0
Yields outcome (Ok x) s = outcome ≡ Ok (s, x)
Yields outcome (Err f) s = Fails outcome f

-- a fault of a lower layer, as it is told in a file
abbrev pub Tells : List ℕ → Fault → Fault → Type 0
Tells file e f = (r : Refusal) → f ≡ fault.Refused r → (q : Refusal) × (e ≡ fault.Refused q) × (r ≡ in_file file q)

-- a refusal, unless memory ran out
abbrev pub Refuses : Refusal → Fault → Type 0
Refuses r f = (q : Refusal) → f ≡ fault.Refused q → q ≡ r

abbrev pub raised : Fault → Failure
raised (fault.Refused r) = failure.Refused r
raised fault.NoMemory = failure.NoMemory

abbrev pub IsNoRefusal : Failure → Type 0
IsNoRefusal f = (r : Refusal) → f ≡ failure.Refused r → ⊥

-- a file that could not be read is this one
abbrev pub NamesFile : List ℕ → Failure → Type 0
NamesFile asked f = (name : List ℕ) → f ≡ failure.File name → name ≡ asked
