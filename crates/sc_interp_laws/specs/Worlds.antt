-- Inside: plumbing, a representation, an invariant or a promise beside the claim (docs/TRUST.md).
-- The world of what a step leaves, and of a state.
use Rattle.sc_meaning.specs.World.{World}
use Rattle.sc_meaning.specs.Outcomes.{world_at}
use Rattle.sc_interp_machine.specs.Machine as expr
use Rattle.sc_interp_machine.specs.Bodies as body
use Rattle.sc_interp_machine.specs.Runs.{State, Runs, Makes, Answers, Ends}

abbrev pub expr_left : expr.Advanced → World
expr_left (expr.GoesOn mode is w) = w
expr_left (expr.CallsOut t v vs is w) = w
expr_left (expr.Gives a w) = w
expr_left (expr.Breaks e) = world_at e

abbrev pub body_left : body.Advanced → World
body_left (body.GoesOn mode ss env w) = w
body_left (body.Lines l mode ss env w) = w
body_left (body.CallsOut t v vs is u ss env w) = w
body_left (body.Leaves way w) = w
body_left (body.Breaks e) = world_at e

abbrev pub world_of : State → World
world_of (Runs mode ss env a cs w) = w
world_of (Makes t v vs c cs w) = w
world_of (Answers a cs w) = w
world_of (Ends e) = world_at e
