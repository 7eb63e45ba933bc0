-- Inside: plumbing, a representation, an invariant or a promise beside the claim (docs/TRUST.md).
-- What a step of the code does, against a step of the machine.
use Rattle.std.specs.Prelude.{◌≡◌, Bool, false, not, List, ◌∷◌, Result, Ok, Err}
use Rattle.sc_parse_names.specs.Names.{Names}
use Rattle.sc_parse_grammar.specs.declared.trouble.Trouble.TheVariants as trouble
use Rattle.sc_parse_unit.specs.declared.around.Around.{Around}
use Rattle.sc_parse_unit.specs.declared.around.Stage.{Stage}
use Rattle.sc_parse_unit.specs.declared.obstacle.Obstacle.{Obstacle}
use Rattle.sc_parse_unit.specs.declared.obstacle.Obstacle.TheVariants as no
use Rattle.sc_parse_unit.specs.declared.around.Around.TheVariants as a
use Rattle.sc_parse_unit.specs.Machine.{Move, waits}

-- the same answer, unless memory ran out
abbrev pub Goes : Move → Result Stage Obstacle → Names → List Around → Type 0
Goes move (Ok stage) names fs = move ≡ Ok (names, (fs, stage))
Goes move (Err (no.Inner trouble.NoMemory)) names fs = Unit {0}
Goes move (Err (no.Inner trouble.Syntax)) names fs = move ≡ Err (no.Inner trouble.Syntax)
Goes move (Err (no.Inner (trouble.LeftOut which))) names fs = move ≡ Err (no.Inner (trouble.LeftOut which))
Goes move (Err (no.Inner (trouble.Limit which))) names fs = move ≡ Err (no.Inner (trouble.Limit which))
Goes move (Err no.Nesting) names fs = move ≡ Err no.Nesting

-- whether the place ends with a statement; `other` says whether `else` follows
abbrev pub ends_on : Bool → List Around → Bool
ends_on other (a.Under head ∷ fs) = not (waits other head)
ends_on other _ = false
