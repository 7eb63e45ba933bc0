-- Inside: plumbing, a representation, an invariant or a promise beside the claim (docs/TRUST.md).
-- How the program says that a run ended.
use Rattle.std.specs.Prelude.{◌≡◌, ℕ, ◌<◌, false, List, [], Option, Some, None, Result, Ok, Err}
use Rattle.sc_base.specs.declared.key.Key.{Key}
use Rattle.sc_meaning.specs.World.{World, GoesOut, pass}
use Rattle.sc_meaning.specs.Outcomes.{Done, Ending, Exit, Undefined, StackFull, BirthLimit}
use Rattle.sc_meaning.specs.Versions.{Text, callee_of}
use Rattle.sc_meaning.specs.Changes.{statics_born}
use Rattle.sc_meaning.specs.Behaviour.{Start, ending, first_world}
use Rattle.sc_meaning.specs.Beside.{nothing_beside}
use Rattle.sc_interp_access.specs.declared.stop.Stop.{Stop}
use Rattle.sc_interp_access.specs.Gives.{ending_of}
use Rattle.sc_interp_access.specs.declared.ended.Ended.{Ended}
use Rattle.sc_interp_access.specs.declared.ended.Ended.TheVariants as ended
use Rattle.sc_interp.specs.Steady.{alone, callee_next, ran}
use Rattle.sc_interp.specs.Steps.{is_over}

-- no end is told where no room was left, or where the steps were used up
abbrev pub end_of : Ended → World → Option Ending
end_of (ended.Exit status) w = Some (Exit status w)
end_of (ended.Undefined b) w = Some (Undefined b w)
end_of (ended.StackFull key) w = Some (StackFull key w)
end_of ended.BirthLimit w = Some (BirthLimit w)
end_of ended.OutOfSteps w = None
end_of ended.NoRoom w = None

-- one program, which does not change, and the entry of its run
abbrev pub start_of : List Text → Key → ℕ → ℕ → List ℕ → Start
start_of texts key stack heap input = record { entry = key; stack = stack; heap = heap; input = input; history = alone texts; beside = nothing_beside }

-- the run is not over after these steps of the call of its entry, behind the births
abbrev pub LastsLonger : ℕ → Start → Type 0
LastsLonger steps s =
    (texts : List Text) × (s.history ≡ alone texts) × (born : World) × (statics_born texts (first_world s) ≡ Done tt born)
    × (is_over (ran steps (alone texts) texts (callee_next (alone texts) s.entry [] (callee_of texts s.entry) [] (pass GoesOut born))) ≡ false)

-- so the run ends, at every bound greater than these steps; only one that lasts longer uses its steps up
abbrev pub EndsSo : ℕ → Start → Ended → World → Type 0
EndsSo steps s ended.OutOfSteps w = LastsLonger steps s
EndsSo steps s ended w = (n : ℕ) → steps < n → (e : Ending) → end_of ended w ≡ Some e → ending n s ≡ e

-- the same of what a part of the program answers
abbrev pub Finishes : ℕ → Start → Result Ended Stop → World → Type 0
Finishes steps s (Ok ended) w = EndsSo steps s ended w
Finishes steps s (Err stop) w = (n : ℕ) → steps < n → (e : Ending) → ending_of stop w ≡ Some e → ending n s ≡ e
