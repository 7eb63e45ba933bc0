-- What is left to be done from here gives what all the steps give from the first state.
use Rattle.std.proofs.Common.{◌≡◌}
use Rattle.sc_meaning.specs.Versions.{History}
use Rattle.sc_interp_machine.specs.Runs.{State}
use Rattle.sc_lib.specs.Quiet.{IsQuiet}
use Rattle.sc_interp.specs.Steady as steady
use Rattle.sc_interp.specs.Steps.{Is}
use Rattle.sc_interp.proofs.drive.drive.Given as goal

abbrev pub invariant-stepping : goal.invariant-stepping
invariant-stepping l =
    (h : History) → IsQuiet h → (s : State) → Is s l.fn.first l.fn.callers l.fn.world → (t : State) × Is t l.going l.callers l.world × (steady.ran l.left h l.texts t ≡ steady.ran l.steps h l.texts s)

abbrev pub decreases-stepping : goal.decreases-stepping
decreases-stepping l = l.left
