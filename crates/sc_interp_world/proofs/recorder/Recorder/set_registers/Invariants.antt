use Rattle.std.proofs.Common.{◌≡◌}
use Rattle.sc_interp_world.specs.Recording.{set_first}
use Rattle.sc_interp_world.proofs.recorder.Recorder.set_registers.Given as goal

abbrev pub invariant-loop-r : goal.invariant-loop-r
invariant-loop-r l = l.self ≡ set_first l.words l.r l.fn.self
