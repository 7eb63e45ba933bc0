use Rattle.std.proofs.Common.{◌≡◌, drop}
use Rattle.sc_core_formed.specs.Frames.{functions}
use Rattle.sc_core_formed.proofs.frames.functions.Given as goal

-- what is to come decides
abbrev pub invariant-loop-f : goal.invariant-loop-f
invariant-loop-f l = functions l.m.core.now (drop l.f-index l.funs) ≡ functions l.m.core.now l.funs
