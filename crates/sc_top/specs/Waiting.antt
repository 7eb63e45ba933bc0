-- Inside: plumbing, a representation, an invariant or a promise beside the claim (docs/TRUST.md).
-- Bytes that wait to be written, before they go to a sink.
use Rattle.std.specs.Prelude.{◌≡◌, ◌⊎◌, ℕ, List, [], ◌++◌, Contains, Option}
use Rattle.std.specs.Io.KnownBytes.{Appends}
use Rattle.sc_outside.specs.declared.sink.Sent.{Sent}
use Rattle.sc_outside.specs.declared.sink.Sent.TheVariants as sent

-- This text is what the sink gained and what waits behind it.
abbrev pub IsOnItsWay : Option (List ℕ) → Option (List ℕ) → List ℕ → List ℕ → Type 0
IsOnItsWay old new waiting text = (front : List ℕ) × (text ≡ front ++ waiting) × Appends old new front

-- The same of a part of the text, from the front.
abbrev pub IsPartlyOnItsWay : Option (List ℕ) → Option (List ℕ) → List ℕ → List ℕ → Type 0
IsPartlyOnItsWay old new waiting text = (front : List ℕ) × (rest : List ℕ) × (text ≡ front ++ waiting ++ rest) × Appends old new front

-- A read may wait for the next command: nothing waits to be written then, unless the rest of a line was read already.
abbrev pub MayRead : List ℕ → List ℕ → Type 0
MayRead held waiting = (waiting ≡ []) ⊎ Contains held 10

-- Bytes were put behind those that wait.
abbrev pub Posts : Option (List ℕ) → Option (List ℕ) → List ℕ → Sent → List ℕ → Type 0
Posts old new waiting sent.Done text = IsOnItsWay old new waiting text
Posts old new waiting sent.Failed text = IsPartlyOnItsWay old new waiting text
Posts old new waiting sent.NoMemory text = IsPartlyOnItsWay old new waiting text
