-- Inside: plumbing, a representation, an invariant or a promise beside the claim (docs/TRUST.md).
-- What the code answers, against what is defined.
use Rattle.std.specs.Prelude.{ℕ, ◌≡◌, List, Option, Some, Result, Ok, Err, ⊤}
use Rattle.sc_base.specs.declared.refusal.Refusal.{Refusal}
use Rattle.sc_outside.specs.Causes.{Rose}
use Rattle.sc_outside.specs.Stored.{FileMap}
use Rattle.sc_outside.specs.declared.files.FileGot.{FileGot}
use Rattle.sc_outside.specs.declared.files.FileGot.TheVariants as files
use Rattle.sc_lex.specs.declared.token.Token.{Token}
use Rattle.sc_pp.specs.declared.line.Line.{Line}
use Rattle.sc_pp.specs.declared.frame.Frame.{Frame}
use Rattle.sc_pp.specs.declared.failure.Failure.{Failure}
use Rattle.sc_pp.specs.declared.failure.Failure.TheVariants as failure
use Rattle.sc_pp.specs.declared.unit.PpFault.{PpFault}
use Rattle.sc_pp.specs.declared.unit.PpFault.TheVariants as fault
use Rattle.sc_pp.specs.declared.state.State.{State}
use Rattle.sc_pp.specs.declared.state.Place.{Place}
use Rattle.sc_pp.specs.Outcomes.{Outcome, after}
use Rattle.sc_pp.specs.Directives.{test}
use Rattle.sc_pp.specs.Reader as reader
use Rattle.sc_pp.specs.Preprocessing.{Reading}

-- The code stops with this outcome. Want of memory may come in its place, and a file that could not be read.
abbrev pub Stops : {A : Type 0} → Outcome A → Failure → Type 0
Stops outcome f = (r : Refusal) → f ≡ failure.Refused r → outcome ≡ Err r

-- a refusal, unless memory ran out
abbrev pub RefusesFile : Refusal → Failure → Type 0
RefusesFile r f = ((q : Refusal) → f ≡ failure.Refused q → q ≡ r) × ((name : List ℕ) → f ≡ failure.File name → ⊥)

-- the code's text is this one
abbrev pub Fetches : Outcome (Option (List ℕ)) → Result (Option (List ℕ)) Failure → Type 0
Fetches outcome (Ok text) = outcome ≡ Ok text
Fetches outcome (Err f) = Stops outcome f

-- the code's reading is this one
abbrev pub Reads : Outcome State → Result Unit Failure → State → Type 0
Reads outcome (Ok u) s = outcome ≡ Ok s
Reads outcome (Err f) s = Stops outcome f

-- one line of a file, with the conditionals that are open
abbrev pub one : Reading → Place → State → List Frame → Line → Outcome (State × List Frame)
one reading place s fs u =
    after (reader.turn State place.name (test place) s fs u)
    (λ r. after (reader.done State place.name (test place) (reading place) r.0 r.2) (λ s2. Ok (s2, r.1)))

-- the code's step is this one
abbrev pub Steps : Outcome (State × List Frame) → Result Unit Failure → State → List Frame → Type 0
Steps outcome (Ok u) s fs = outcome ≡ Ok (s, fs)
Steps outcome (Err f) s fs = Stops outcome f

-- the code's tokens are these
abbrev pub Finds : Outcome (List Token) → Result (List Token) Failure → Type 0
Finds outcome (Ok tokens) = outcome ≡ Ok tokens
Finds outcome (Err f) = Stops outcome f

abbrev pub failed : Failure → PpFault
failed (failure.Refused r) = fault.Refused r
failed (failure.File name) = fault.File name
failed failure.NoMemory = fault.NoMemory

-- The code's answer is this one. Want of memory may come in its place, and a file that could not be read.
abbrev pub Answers : Result (List Token) PpFault → Result (List Token) PpFault → Type 0
Answers outcome (Ok tokens) = outcome ≡ Ok tokens
Answers outcome (Err (fault.Refused r)) = outcome ≡ Err (fault.Refused r)
Answers outcome (Err fault.Missing) = outcome ≡ Err fault.Missing
Answers outcome (Err fault.TooLong) = outcome ≡ Err fault.TooLong
Answers outcome (Err (fault.File name)) = ⊤
Answers outcome (Err fault.NoMemory) = ⊤

-- what holds where an object tells its files
abbrev pub Known : Option FileMap → (FileMap → Type 0) → Type 0
Known held P = (map : FileMap) → held ≡ Some map → P map

-- a file is blamed only where reading it failed
abbrev pub BlamesRead : {A : Type 0} → FileGot → Result A Failure → Type 0
BlamesRead got result = (name : List ℕ) → result ≡ Err (failure.File name) → got ≡ files.Failed

-- a file that could not be read is this one
abbrev pub IsOf : {A : Type 0} → List ℕ → Result A Failure → Type 0
IsOf asked result = (name : List ℕ) → result ≡ Err (failure.File name) → name ≡ asked

-- a file is blamed only where the count of faults has risen
abbrev pub Blames : {A : Type 0} → ℕ → ℕ → Result A Failure → Type 0
Blames before now result = (name : List ℕ) → result ≡ Err (failure.File name) → Rose before now

abbrev pub BlamesFile : {A : Type 0} → ℕ → ℕ → Result A PpFault → Type 0
BlamesFile before now result = (name : List ℕ) → result ≡ Err (fault.File name) → Rose before now
