-- Yardstick: to be compared with what it restates (docs/TRUST.md).
-- The report of one of a list of probes, and what is left of the list without one.
use Rattle.std.specs.Prelude.{◌≡◌, ℕ, zero, suc, ◌&&◌, ◌++◌, ◌∷◌, [], List, remove, Bool, false, nat_lt, if◌then◌else◌, Option, Some, None}
use Rattle.sc_outside.specs.Told.{IsTextTold}
use Rattle.sc_words.specs.declared.command.Command.{Command}
use Rattle.sc_words.specs.declared.command.Command.TheVariants as command

-- the text of the one at place k, where there is one
abbrev pub TellsAt : {A : Type 0} → (A → Option (List ℕ)) → List A → ℕ → Option (List ℕ) → Type 0
TellsAt report [] k text = text ≡ None
TellsAt report (p ∷ ps) zero (Some text) = IsTextTold (report p) text
TellsAt report (p ∷ ps) zero None = ⊥
TellsAt report (p ∷ ps) (suc k) text = TellsAt report ps k text

-- the text of the one of which a command asks a report
abbrev pub TellsFor : {A : Type 0} → (A → Option (List ℕ)) → List A → Command → List ℕ → Type 0
TellsFor report ps (command.Report k) text = TellsAt report ps k (Some text)
TellsFor report ps _ text = ⊥

-- one of n may be taken out, but not the first
abbrev pub may_go : ℕ → ℕ → Bool
may_go k n = nat_lt 0 k && nat_lt k n

-- each later mark moves down, and the last is not set
abbrev pub marks_without : ℕ → List Bool → List Bool
marks_without k marks = if nat_lt k 16 then remove marks k ++ false ∷ [] else marks
