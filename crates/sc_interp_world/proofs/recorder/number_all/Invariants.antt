use Rattle.sc_interp_world.specs.Told.{Numbers}
use Rattle.sc_interp_world.proofs.recorder.number_all.Given as goal

abbrev pub invariant-loop-key : goal.invariant-loop-key
invariant-loop-key l = Numbers l.fn.functions l.functions
