use Rattle.std.proofs.Common.{◌≡◌, map, take}
use Rattle.sc_gen.specs.Objects as spec
use Rattle.sc_gen.proofs.symbols.frames_of.Given as goal

abbrev pub invariant-loop-f : goal.invariant-loop-f
invariant-loop-f l = l.all ≡ map (spec.frame_of l.home l.targets) (take l.f-index l.funs)
