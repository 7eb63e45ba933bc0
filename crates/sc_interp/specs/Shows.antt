-- Yardstick: to be compared with what it restates (docs/TRUST.md).
-- What a step of a run shows to one who watches it: that a line is reached, or that a function of a text is entered.
use Rattle.std.specs.Prelude.{◌≡◌, List, [], ◌∷◌, Some, Result, Ok, Err}
use Rattle.sc_meaning.specs.World.{World}
use Rattle.sc_meaning.specs.Outcomes.{Ending}
use Rattle.sc_meaning.specs.Versions.{Text, History}
use Rattle.sc_interp_machine.specs.Bodies as body
use Rattle.sc_interp_machine.specs.Runs.{Caller, State, Runs, Makes, Answers, Ends}
use Rattle.sc_interp_access.specs.declared.stop.Stop.{Stop}
use Rattle.sc_interp_access.specs.Gives.{ending_of}
use Rattle.sc_interp.specs.declared.stepped.Shown.{Shown}
use Rattle.sc_interp.specs.declared.stepped.Shown.TheVariants.{Nothing, Line, Entered}
use Rattle.sc_interp.specs.declared.going.Going.{Going}
use Rattle.sc_interp.specs.Steady.{advance}
use Rattle.sc_interp.specs.Steps.{Is}

-- the line that a step of a body reaches
abbrev pub line_shown : body.Advanced → Shown
line_shown (body.GoesOn doing ss env w) = Nothing
line_shown (body.Lines l doing ss env w) = Line l
line_shown (body.CallsOut t v vs is u ss env w) = Nothing
line_shown (body.Leaves way w) = Nothing
line_shown (body.Breaks e) = Nothing

-- a call that was to be made has entered its function where a body runs now; a function of the library has answered
abbrev pub entry_shown : State → Shown
entry_shown (Runs doing ss env a cs w) = Entered
entry_shown (Makes t v vs c cs w) = Nothing
entry_shown (Answers a cs w) = Nothing
entry_shown (Ends e) = Nothing

-- what the step from this state shows
abbrev pub shown : History → List Text → State → Shown
shown h texts (Runs doing ss env a cs w) = line_shown (body.advance doing ss env w)
shown h texts (Makes t v vs c cs w) = entry_shown (advance h texts (Makes t v vs c cs w))
shown h texts (Answers a cs w) = Nothing
shown h texts (Ends e) = Nothing

-- the program's step in place is this one, and shows this; where no room was left, nothing is said
abbrev pub StepsShowing : State → Shown → Result Shown Stop → Going → List Caller → World → Type 0
StepsShowing s now (Ok shown) g cs w = Is s g cs w × (shown ≡ now)
StepsShowing s now (Err stop) g cs w = (e : Ending) → ending_of stop w ≡ Some e → s ≡ Ends e
