use Rattle.sc_interp_world.specs.Recording.{Adds}
use Rattle.sc_interp_world.proofs.recorder.Recorder.puts.Given as goal

abbrev pub invariant-loop-k : goal.invariant-loop-k
invariant-loop-k l = Adds l.fn.self l.self
