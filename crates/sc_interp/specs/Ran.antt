-- Inside: plumbing, a representation, an invariant or a promise beside the claim (docs/TRUST.md).
-- What a step of the innermost body in place came to: the run goes on, or what is there says which state comes of it.
use Rattle.std.specs.Prelude.{◌≡◌, List, [], ◌∷◌, Some, Result, Ok, Err}
use Rattle.sc_meaning.specs.World.{World}
use Rattle.sc_meaning.specs.Outcomes.{Ending}
use Rattle.sc_meaning.specs.Expressions.{Env}
use Rattle.sc_meaning.specs.Calls.{answer_of}
use Rattle.sc_interp_machine.specs.Runs.{Active, Caller, State, Runs, Makes, Answers, Ends}
use Rattle.sc_interp_machine.specs.declared.pending.Item.{Item}
use Rattle.sc_interp_machine.specs.declared.pending.Item.TheVariants.{Alone, Argument}
use Rattle.sc_interp_machine.specs.declared.pending.Single.TheVariants.{Back}
use Rattle.sc_interp_machine.specs.declared.body.Use.{Use}
use Rattle.sc_interp_machine.specs.declared.body.Pending.{Pending}
use Rattle.sc_interp_machine.specs.declared.body.Doing.TheVariants.{Within, Leave}
use Rattle.sc_interp_access.specs.declared.stop.Stop.{Stop}
use Rattle.sc_interp_access.specs.Gives.{ending_of}
use Rattle.sc_interp.specs.declared.stepped.Shown.{Shown}
use Rattle.sc_interp.specs.declared.stepped.Shown.TheVariants.{Nothing}
use Rattle.sc_interp.specs.declared.stepped.Ran.{Ran}
use Rattle.sc_interp.specs.declared.stepped.Ran.TheVariants as ran
use Rattle.sc_interp.specs.declared.going.Going.{Going}
use Rattle.sc_interp.specs.declared.going.Going.TheVariants as going
use Rattle.sc_interp.specs.Steady.{without_call}
use Rattle.sc_interp.specs.Steps.{Is}

-- a call goes out by the item on top, which awaits the call's answer from then on
abbrev pub Sent : State → List Item → Use → List Pending → Env → Active → List Caller → World → Type 0
Sent s (Argument t v es vs ∷ is) u ss env a cs w = s ≡ Makes t v vs (record { items = Alone Back ∷ is; user = u; stmts = ss; env = env; active = a }) cs w
Sent s _ u ss env a cs w = ⊥

abbrev pub Sends : State → Going → List Caller → World → Type 0
Sends s (going.Runs (Within mode is u) ss env a) cs w = Sent s is u ss env a cs w
Sends s _ cs w = ⊥

-- the body is left, in the way that is there
abbrev pub Leaves : State → Going → List Caller → World → Type 0
Leaves s (going.Runs (Leave way) ss env a) cs w = s ≡ Answers (answer_of way) cs (without_call a.ids a.cost w)
Leaves s _ cs w = ⊥

abbrev pub RunsTo : State → Shown → Result Ran Stop → Going → List Caller → World → Type 0
RunsTo s now (Ok (ran.On shown)) g cs w = Is s g cs w × (shown ≡ now)
RunsTo s now (Ok ran.Calls) g cs w = Sends s g cs w × (Nothing ≡ now)
RunsTo s now (Ok ran.Leaves) g cs w = Leaves s g cs w × (Nothing ≡ now)
RunsTo s now (Err stop) g cs w = (e : Ending) → ending_of stop w ≡ Some e → s ≡ Ends e
