-- Yardstick: to be compared with what it restates (docs/TRUST.md).
-- Which object a run initialises where it stands.
use Rattle.std.specs.Prelude.{ℕ, Option, Some, None}
use Rattle.sc_meaning.specs.Statements.{id_of}
use Rattle.sc_interp_machine.specs.declared.body.Doing.{Doing}
use Rattle.sc_interp_machine.specs.declared.body.Doing.TheVariants.{Pieces}
use Rattle.sc_interp_machine.specs.Runs.{State, Runs, Makes, Answers, Ends}

-- where the pieces of an object's initialiser come next
abbrev pub declaring_by : Doing → Option ℕ
declaring_by (Pieces p pieces) = Some (id_of p)
declaring_by _ = None

abbrev pub declaring_at : State → Option ℕ
declaring_at (Runs doing ss env a cs w) = declaring_by doing
declaring_at (Makes t v vs c cs w) = None
declaring_at (Answers a cs w) = None
declaring_at (Ends e) = None
