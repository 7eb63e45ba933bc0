-- Inside: plumbing, a representation, an invariant or a promise beside the claim (docs/TRUST.md).
-- How a step of the program on a body stands to the machine's step.
use Rattle.std.specs.Prelude.{◌≡◌, List, [], ◌∷◌, Option, Some, Result, Ok, Err}
use Rattle.sc_meaning.specs.World.{World}
use Rattle.sc_meaning.specs.Outcomes.{Ending}
use Rattle.sc_meaning.specs.Expressions.{Env}
use Rattle.sc_interp_machine.specs.Machine as expr
use Rattle.sc_interp_machine.specs.Bodies.{Advanced, GoesOn, Lines, CallsOut, Leaves, Breaks, expr_next}
use Rattle.sc_interp_machine.specs.declared.pending.Item.{Item}
use Rattle.sc_interp_machine.specs.declared.pending.Item.TheVariants.{Alone, Argument}
use Rattle.sc_interp_machine.specs.declared.pending.Single.TheVariants.{Back}
use Rattle.sc_interp_machine.specs.declared.body.Use.{Use}
use Rattle.sc_interp_machine.specs.declared.body.Pending.{Pending}
use Rattle.sc_interp_machine.specs.declared.body.Doing.{Doing}
use Rattle.sc_interp_machine.specs.declared.body.Doing.TheVariants.{Within, Leave}
use Rattle.sc_interp_access.specs.declared.stop.Stop.{Stop}
use Rattle.sc_interp_access.specs.Gives.{ending_of}
use Rattle.sc_interp_expr.specs.Advances.{EndsAt}
use Rattle.sc_interp_body.specs.declared.moves.Next.{Next}
use Rattle.sc_interp_body.specs.declared.moves.Next.TheVariants as next
use Rattle.sc_interp_body.specs.declared.moves.Move.{Move}
use Rattle.sc_interp_body.specs.declared.moves.Move.TheVariants as came

-- what a step on a statement left, with the pending statements, the names and the world
abbrev pub next_of : Next → List Pending → Env → World → Advanced
next_of (next.Go doing) ss env w = GoesOn doing ss env w
next_of (next.Line l doing) ss env w = Lines l doing ss env w
next_of (next.Leave way) ss env w = Leaves way w

-- the program's step is this one; where no room was left, nothing is said
abbrev pub Moves : Advanced → Result Next Stop → List Pending → Env → World → Type 0
Moves step (Ok n) ss env w = step ≡ next_of n ss env w
Moves step (Err s) ss env w = (e : Ending) → ending_of s w ≡ Some e → step ≡ Breaks e

-- a call goes out by the item on top of an expression, which awaits the call's answer from then on
abbrev pub Sent : Advanced → List Item → Use → List Pending → Env → World → Type 0
Sent step (Argument t v es vs ∷ is) u ss env w = step ≡ CallsOut t v vs (Alone Back ∷ is) u ss env w
Sent step _ u ss env w = ⊥

abbrev pub CallsFrom : Advanced → Doing → List Pending → Env → World → Type 0
CallsFrom step (Within mode is u) ss env w = Sent step is u ss env w
CallsFrom step _ ss env w = ⊥

-- the body is left, in the way that is there
abbrev pub LeavesBy : Advanced → Doing → World → Type 0
LeavesBy step (Leave way) w = step ≡ Leaves way w
LeavesBy step _ w = ⊥

-- the same of a step in place: what it came to, with what the body does next
abbrev pub Left : Advanced → Move → Doing → List Pending → Env → World → Type 0
Left step came.On d ss env w = step ≡ GoesOn d ss env w
Left step (came.Line l) d ss env w = step ≡ Lines l d ss env w
Left step came.Call d ss env w = CallsFrom step d ss env w
Left step came.Leave d ss env w = LeavesBy step d w

abbrev pub Goes : Advanced → Result Move Stop → Doing → List Pending → Env → World → Type 0
Goes step (Ok m) d ss env w = Left step m d ss env w
Goes step (Err s) d ss env w = (e : Ending) → ending_of s w ≡ Some e → step ≡ Breaks e

-- where the whole expression has its answer, the statement uses it
abbrev pub Uses : expr.Advanced → Doing → List Pending → Env → World → Result Move Stop → Doing → List Pending → Env → World → Type 0
Uses a (Within mode is u) ss env w r d js next v = EndsAt a mode w → Goes (expr_next a u ss env) r d js next v
Uses a _ ss env w r d js next v = Unit {0}
